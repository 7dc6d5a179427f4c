use Rattle.std.proofs.Common.{◌≡◌, ℕ, ◌+◌, false, List, Option, length, drop, sym, ap, ◌∙◌, arith, rules}
use Rattle.std.proofs.lemmas.Bool.{or_parts}
use Rattle.std.proofs.lemmas.List.{length_push}
use Rattle.std.proofs.lemmas.Slice.Zip.{zip_turn, zip_end}
use Rattle.farthest.specs.Trials.{open_runs, applied, round_arcs}
use Rattle.farthest.proofs.Steps.{round_more, round_all}
use Rattle.farthest.proofs.settle.round.Goals as goal

pub loop-run-preserved : goal.loop-run-preserved
loop-run-preserved g c =
    let kind = g.K.Cost.kind in
    let V = c.args.view.now in
    let n = length V.outlets.now in
    let i = length c.loop-run.yielded in
    let turn = zip_turn V.runs.now V.«open».now c.loop-run.yielded c.into_iter-run-iterator.result c.loop-run.run-iterator c.next.new.self c.next.result (search rules) (search rules) c.loop-run.yielded_by (c.in-Some.run', c.in-Some.«open») c.in-Some.is c.next.ensures.steps in
    let after : ℕ → List (Option g.row.K.Denot) = λ k. applied kind (round_arcs n (open_runs (drop k V.runs.now) (drop k V.«open».now))) c.try_if_open-changed.new.ds in
    let more = round_more kind n V.runs.now V.«open».now i c.in-Some.run'.now c.in-Some.«open».now c.loop-run.ds turn.0 turn.1 (turn.2 c.in-Some.run'.now) (sym (turn.3 false)) in
    record {
      rest = ap after (length_push c.loop-run.yielded (c.in-Some.run', c.in-Some.«open»))
          ∙ (ap (applied kind (round_arcs n (open_runs (drop (i + 1) V.runs.now) (drop (i + 1) V.«open».now)))) c.try_if_open-changed.ensures.after ∙ (sym more ∙ c.loop-run.invariant.rest));
      still = λ h. let p = or_parts c.loop-run.changed c.try_if_open-changed.result h in
          c.try_if_open-changed.ensures.still p.1 ∙ c.loop-run.invariant.still p.0;
    }

pub returns : goal.returns
returns g c =
    let V = c.args.view.now in
    let all = zip_end V.runs.now V.«open».now c.loop-run.yielded c.into_iter-run-iterator.result c.loop-run.run-iterator c.next.new.self c.next.result (search rules) (search rules) c.loop-run.yielded_by c.in-None.is c.next.ensures.steps in
    let marks = V.marks in
    record {
      after = sym (round_all g.K.Cost.kind (length V.outlets.now) V.runs.now V.«open».now (length c.loop-run.yielded) c.loop-run.ds (omega arith)) ∙ c.loop-run.invariant.rest;
      still = c.loop-run.invariant.still;
    }
