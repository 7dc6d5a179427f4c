use Rattle.std.proofs.Common.{◌≡◌, length, get_or, take, set, sym, ap, ◌∙◌, arith, rules}
use Rattle.std.proofs.lemmas.List.{length-take-le, with_items_is}
use Rattle.district.specs.Model.{model_of, with_runs, after_reprice}
use Rattle.district.proofs.Laying.{let_through}
use Rattle.district.proofs.Changing.{at_cost, first_repriced, ends_repriced, priced_set, repriced_taken}
use Rattle.district.proofs.district.District.reprice.Goals as goal

pub returns-clause-writes : goal.returns-clause-writes
returns-clause-writes g c =
    let D = c.args.self.now in
    let m = model_of D in
    let i = c.in_ok-at.at in
    let run = let_through (length m.runs) c.args.run i _ c.in_ok-at.ensures in
    let room = D.room in
    let long : length (take D.laid D.runs.items) ≡ D.laid = length-take-le D.laid D.runs.items (omega arith) in
    let filled = with_items_is D.runs c.set_cost.new.runs (c.set_cost.auto.runs ∙ search rules) in
    let rs = first_repriced D.runs.items _ D.laid i c.args.cost (omega (arith, run.0, run.1)) (omega arith) (λ d. filled ∙ (c.set_cost.ensures d ∙ ap (λ xs. set xs i (at_cost (get_or xs i d) c.args.cost)) c.deref_mut.ensures.value)) in
    ap (with_runs m) rs ∙ sym (repriced_taken g.K.Cost.kind m i c.args.cost (omega (arith, run.0, run.1)) c.in_ok-let_in.ensures).1 ∙ ap (λ n. after_reprice g.K.Cost.kind m n c.args.cost) run.0

pub invariant_of-self-clause-ends : goal.invariant_of-self-clause-ends
invariant_of-self-clause-ends g c =
    let D = c.args.self.now in
    let m = model_of D in
    let i = c.in_ok-at.at in
    let run = let_through (length m.runs) c.args.run i _ c.in_ok-at.ensures in
    let room = D.room in
    let long : length (take D.laid D.runs.items) ≡ D.laid = length-take-le D.laid D.runs.items (omega arith) in
    let filled = with_items_is D.runs c.set_cost.new.runs (c.set_cost.auto.runs ∙ search rules) in
    ends_repriced D.runs.items _ D.laid i c.args.cost (omega (arith, run.0, run.1)) (omega arith) (λ d. filled ∙ (c.set_cost.ensures d ∙ ap (λ xs. set xs i (at_cost (get_or xs i d) c.args.cost)) c.deref_mut.ensures.value)) D.junctions D.ends

pub invariant_of-self-clause-priced : goal.invariant_of-self-clause-priced
invariant_of-self-clause-priced g c =
    let D = c.args.self.now in
    let m = model_of D in
    let i = c.in_ok-at.at in
    let run = let_through (length m.runs) c.args.run i _ c.in_ok-at.ensures in
    let room = D.room in
    let long : length (take D.laid D.runs.items) ≡ D.laid = length-take-le D.laid D.runs.items (omega arith) in
    let filled = with_items_is D.runs c.set_cost.new.runs (c.set_cost.auto.runs ∙ search rules) in
    priced_set D.runs.items _ D.laid i c.args.cost (omega (arith, run.0, run.1)) (omega arith) (λ d. filled ∙ (c.set_cost.ensures d ∙ ap (λ xs. set xs i (at_cost (get_or xs i d) c.args.cost)) c.deref_mut.ensures.value)) g.K.Cost.kind c.in_ok-let_in.ensures D.priced
