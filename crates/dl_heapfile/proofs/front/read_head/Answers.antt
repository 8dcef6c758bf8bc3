use Rattle.std.proofs.Common.{◌≡◌, sym, ◌∙◌, Some, None, List, ℕ}
use Rattle.dl_heapfile.proofs.Heads.{head_read, head_written, head_shorter}
use Rattle.dl_heapfile.proofs.front.read_head.Goals as goal

none_some : (f : List ℕ × List ℕ × List ℕ) → None ≡ Some f → ⊥
none_some f e = cc

pub returns-in_default-clause-found : goal.returns-in_default-clause-found
returns-in_default-clause-found c = λ objects hidden rest is. none_some (objects, hidden, rest) (sym c.in_default.ensures ∙ head_written c.args.text.now objects hidden rest is)

pub returns-clause-found : goal.returns-clause-found
returns-clause-found c = head_read c.args.text.now (c.in-Some.objects.now, c.in-Some.hidden.now, c.in-Some.rest.now) c.in-Some.ensures

pub returns-clause-shorter : goal.returns-clause-shorter
returns-clause-shorter c =
    head_shorter c.args.text.now c.in-Some.objects.now c.in-Some.hidden.now c.in-Some.rest.now
    (head_read c.args.text.now (c.in-Some.objects.now, c.in-Some.hidden.now, c.in-Some.rest.now) c.in-Some.ensures)
