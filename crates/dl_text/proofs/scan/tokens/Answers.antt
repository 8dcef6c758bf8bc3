use Rattle.std.proofs.Common.{◌≡◌, ◌+◌, arith, sym, ◌∙◌, subst}
use Rattle.dl_text.specs.declared.token.TextFault.TheVariants.{NotAscii, BadByte, BigNumber}
use Rattle.dl_text.specs.declared.scan.Piece.TheVariants as piece
use Rattle.dl_text.specs.Text.{IsTextFault}
use Rattle.dl_text.specs.Scan as spec
use Rattle.dl_text.proofs.State.{State, Round, same_round, begin, meaning, skip_fits, take_fits, feed_fits, feed_next, skip_next, take_next, all_found, only_found, no_fault, ordered, not_tokens, only_fault}
use Rattle.dl_text.proofs.scan.tokens.Goals as goal
use Rattle.dl_text.proofs.scan.tokens.Goals.{in-Feed, in-Skip, in-Take+in-Ok, Joined-first}

pub pieces-init : goal.pieces-init
pieces-init c = begin _ _ c.new-found.ensures

pub returns-in-End-clause-found : goal.returns-in-End-clause-found
returns-in-End-clause-found c = all_found c.pieces.invariant (sym c.in-End.is ∙ c.first.ensures)

pub returns-in-End-clause-only : goal.returns-in-End-clause-only
returns-in-End-clause-only c = only_found c.pieces.invariant (sym c.in-End.is ∙ c.first.ensures)

pub returns-in-End-clause-only_fault : goal.returns-in-End-clause-only_fault
returns-in-End-clause-only_fault c = no_fault c.pieces.invariant (sym c.in-End.is ∙ c.first.ensures)

pub returns-in-End-clause-in_order : goal.returns-in-End-clause-in_order
returns-in-End-clause-in_order c = ordered c.pieces.invariant

pub overflow_add-end : goal.overflow_add-end
overflow_add-end c =
    let fits = take_fits c.pieces.rest.now c.in-Take.kind c.in-Take.len (sym c.in-Take.is ∙ c.first.ensures) in
    omega (arith, fits.within, c.pieces.invariant.place, c.requires)

-- each fault is the first one
foreign : (c : goal.After-drop-found-inside-in-Foreign) → IsTextFault c.args.bytes.now (NotAscii c.pieces.at c.pieces.line)
foreign c = (c.pieces.found, c.pieces.rest.now, c.pieces.invariant.cut, meaning _ piece.Foreign (sym c.in-Foreign.is ∙ c.first.ensures))

pub returns-in-Foreign-clause-only : goal.returns-in-Foreign-clause-only
returns-in-Foreign-clause-only c = not_tokens _ _ (foreign c)

pub returns-in-Foreign-clause-fault : goal.returns-in-Foreign-clause-fault
returns-in-Foreign-clause-fault c = λ real. foreign c

pub returns-in-Foreign-clause-only_fault : goal.returns-in-Foreign-clause-only_fault
returns-in-Foreign-clause-only_fault c = only_fault _ _ (foreign c)

stray : (c : goal.After-drop-found-inside-in-Stray) → IsTextFault c.args.bytes.now (BadByte c.pieces.at c.pieces.line)
stray c = (c.pieces.found, c.pieces.rest.now, c.pieces.invariant.cut, meaning _ piece.Stray (sym c.in-Stray.is ∙ c.first.ensures))

pub returns-in-Stray-clause-only : goal.returns-in-Stray-clause-only
returns-in-Stray-clause-only c = not_tokens _ _ (stray c)

pub returns-in-Stray-clause-fault : goal.returns-in-Stray-clause-fault
returns-in-Stray-clause-fault c = λ real. stray c

pub returns-in-Stray-clause-only_fault : goal.returns-in-Stray-clause-only_fault
returns-in-Stray-clause-only_fault c = only_fault _ _ (stray c)

big : (c : goal.After-drop-found-inside-in-Big) → IsTextFault c.args.bytes.now (BigNumber c.pieces.at c.pieces.line)
big c = (c.pieces.found, c.pieces.rest.now, c.pieces.invariant.cut, meaning _ piece.Big (sym c.in-Big.is ∙ c.first.ensures))

pub returns-in-Big-clause-only : goal.returns-in-Big-clause-only
returns-in-Big-clause-only c = not_tokens _ _ (big c)

pub returns-in-Big-clause-fault : goal.returns-in-Big-clause-fault
returns-in-Big-clause-fault c = λ real. big c

pub returns-in-Big-clause-only_fault : goal.returns-in-Big-clause-only_fault
returns-in-Big-clause-only_fault c = only_fault _ _ (big c)

-- what one round takes
round : (c : Joined-first) → Round c.args.bytes.now c.match-first.found c.pieces.at c.match-first.line c.match-first.len c.pieces.rest.now
round c =
    elim c.match-first.branch [
      | in-Feed w ↦
          let is : piece.Feed ≡ spec.first c.pieces.rest.now = w.in-Feed.ensures in
          same_round w.found-is w.line-is w.len-is (record { fits = feed_fits _ is; state = feed_next c.pieces.invariant is })
      | in-Skip w ↦
          let is : piece.Skip w.in-Skip.len ≡ spec.first c.pieces.rest.now = w.in-Skip.ensures in
          same_round w.found-is w.line-is w.len-is (record { fits = skip_fits _ _ is; state = skip_next c.pieces.invariant _ is })
      | in-Take+in-Ok w ↦
          let is : piece.Take w.in-Take.kind w.in-Take.len ≡ spec.first c.pieces.rest.now = w.in-Take.ensures in
          same_round (w.found-is ∙ w.in-Ok.ensures.ok) w.line-is w.len-is (record { fits = take_fits _ _ _ is; state = take_next c.pieces.invariant _ _ is })
    ]

pub split_at-requires : goal.split_at-requires
split_at-requires c = (round c).fits.within

pub overflow_add-at : goal.overflow_add-at
overflow_add-at c =
    let r = round (goal.at.overflow_add-at c).Joined-first in
    omega (arith, r.fits.within, c.pieces.invariant.place, c.requires)

pub pieces-smaller : goal.pieces-smaller
pieces-smaller c =
    let r = round (goal.at.pieces-smaller c).Joined-first in
    omega (arith, r.fits.within, r.fits.positive, c.split_at.ensures.back_len)

pub pieces-preserved : goal.pieces-preserved
pieces-preserved c =
    let r = round (goal.at.pieces-preserved c).Joined-first in
    subst (State c.args.bytes.now c.match-first.found (c.pieces.at + c.match-first.len) c.match-first.line) (sym c.split_at.ensures.back) r.state
