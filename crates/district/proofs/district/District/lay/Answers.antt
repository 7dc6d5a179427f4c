use Rattle.std.proofs.Common.{◌+◌, ◌<◌, take, sym, subst, arith}
use Rattle.std.proofs.lemmas.Grind.{take-set_at}
use Rattle.network.specs.Costs.{Price}
use Rattle.network.specs.Layouts.{Priced}
use Rattle.district.specs.Bounds.{EndsBelow}
use Rattle.district.proofs.Laying.{each_push, let_through, price_is}
use Rattle.district.proofs.district.District.lay.Goals as goal

pub invariant_of-self-clause-ends : goal.invariant_of-self-clause-ends
invariant_of-self-clause-ends g c =
    let D = c.args.self.now in
    let a = let_through D.junctions c.args.a c.in_ok-a.a _ c.in_ok-a.ensures in
    let b = let_through D.junctions c.args.b c.in_ok-b.b _ c.in_ok-b.ensures in
    let at = c.from-at.ensures in
    subst (EndsBelow D.junctions) (sym (take-set_at D.runs.items c.from-at.result (D.laid + 1) _ (omega (arith, at)) (omega arith)))
    (each_push (λ r. (r.a < D.junctions) × (r.b < D.junctions)) (take c.from-at.result D.runs.items) _ (omega (arith, a.0, a.1), omega (arith, b.0, b.1)) (subst (λ n. EndsBelow D.junctions (take n D.runs.items)) (sym at) D.ends))

pub invariant_of-self-clause-priced : goal.invariant_of-self-clause-priced
invariant_of-self-clause-priced g c =
    let D = c.args.self.now in
    let kind = g.K.Cost.kind in
    let at = c.from-at.ensures in
    subst (Priced kind) (sym (take-set_at D.runs.items c.from-at.result (D.laid + 1) _ (omega (arith, at)) (omega arith)))
    (each_push (λ r. Price kind r.cost) (take c.from-at.result D.runs.items) _ (price_is kind c.args.cost c.in_ok-let_in.ensures) (subst (λ n. Priced kind (take n D.runs.items)) (sym at) D.priced))
