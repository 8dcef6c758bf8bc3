use Rattle.std.proofs.Common.{◌≡◌, ◌+◌, ◌%◌, ◌<◌, ◌++◌, [], ◌∷◌, length, ap, ◌∙◌, arith, slice_set, slice_index_or}
use Rattle.std.proofs.lemmas.List.FromFn.{length-map-range_with_len}
use Rattle.dl_work.specs.Draws.{state_after}
use Rattle.dl_work.specs.Works.{call_of, file_of, files_of}
use Rattle.dl_work.proofs.Dealing.{dealt, file_there}
use Rattle.dl_work.proofs.Drawing.{call_behind, state_next}
use Rattle.dl_work.proofs.works.make_files.Goals as goal

pub index_mut-file-requires : goal.index_mut-file-requires
index_mut-file-requires c =
    omega (arith, c.loop-i.files.ok.0, ap length c.loop-i.invariant.files, length-map-range_with_len (file_of c.args.draws.now.state c.loop-i.i c.args.callers) 1 c.args.callers, c.requires)

pub loop-i-preserved : goal.loop-i-preserved
loop-i-preserved c =
    let seed = c.args.draws.now.state in
    let callers = c.args.callers in
    let i = c.loop-i.i in
    let at = i % callers in
    let within : i % callers < callers = omega (arith, c.requires) in
    let file = c.index_mut-file.ensures.value ∙ ap (λ files. slice_index_or files at c.index_mut-file.result.now) c.loop-i.invariant.files
    ∙ file_there seed callers i at within c.index_mut-file.result.now in
    let call = c.in_ok-call.ensures.call ∙ ap (λ s. call_of s 0) c.loop-i.invariant.state ∙ call_behind seed i in
    let pushed : c.push.new.self ≡ file_of seed i callers (1 + at) ++ call_of seed i ∷ []
    = c.in_ok-push.ensures.ok ∙ ap (λ front. front ++ c.in_ok-call.call ∷ []) file ∙ ap (λ last. file_of seed i callers (1 + at) ++ last ∷ []) call in
    record {
      files = ap (λ files. slice_set files at c.push.new.self) c.loop-i.invariant.files ∙ ap (slice_set (files_of seed i callers) at) pushed ∙ dealt seed callers i within;
      state = c.in_ok-call.ensures.state ∙ ap (λ s. state_after s 3) c.loop-i.invariant.state ∙ state_next seed i;
    }
