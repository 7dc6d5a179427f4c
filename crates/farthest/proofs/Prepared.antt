-- What a view brings to the bound, and how the estimator's memory holds it. Assumes nothing.
use Rattle.std.proofs.Common.{◌≡◌, ℕ, zero, suc, ◌+◌, ◌-◌, ◌*◌, ◌^◌, ◌<◌, ◌≤◌, Bool, true, false, cond, ltb, List, [], ◌∷◌, length, get_or, take, None, Option, unwrap_or, sym, refl, ap, ◌∙◌, subst, inl, inr, arith}
use Rattle.std.proofs.lemmas.List.{get_or-take}
use Rattle.std.proofs.lemmas.Bool.{ltb-true, le-ltb, cond-false}
use Rattle.network.specs.Bounds.{Lawful}
use Rattle.network.specs.Costs.{Kind, Laws, greater}
use Rattle.network.specs.Layouts.{Layout, Priced}
use Rattle.network.specs.declared.run.Run.{Run}
use Rattle.estimate.specs.Estimates.{Prepared}
use Rattle.farthest.specs.Trials.{open_runs, table}
use Rattle.farthest.specs.Distances.{Distances, in_set, farthest, far_bound, Far}
use Rattle.farthest.specs.Memories.{in_row}
use Rattle.farthest.proofs.Graph.{Spans, Joins, here, there}
use Rattle.farthest.proofs.Columns.{Facts}
use Rattle.farthest.proofs.Bounding.{found_measured, found_lawful}

-- what holds of each run holds of an open run that joins
each_open : {K : Type 0} (P : Run K → Type 0) (rs : List (Run K)) (os : List Bool) → ((i : ℕ) (d : Run K) → i < length rs → P (get_or rs i d))
    → {u w : ℕ} {c : K} → Joins u w c (open_runs rs os) → (r : Run K) × P r × Spans r u w c
each_open P [] os f j = elim j [ ]
each_open P (r ∷ rs) [] f j = elim j [ ]
each_open {K} P (r ∷ rs) (o ∷ os) f {u} {w} {c} j = look o j (each_open P rs os (λ i d l. f (suc i) d (omega arith)))
  where
    look : (o : Bool) → Joins u w c (cond o (r ∷ open_runs rs os) (open_runs rs os)) → (Joins u w c (open_runs rs os) → (r : Run K) × P r × Spans r u w c) → (r : Run K) × P r × Spans r u w c
    look false j g = g j
    look true (here h) g = (r, f 0 r (omega arith), h)
    look true (there j) g = g j

pub facts_of : {K : Type 0} (kind : Kind K) (s : Layout K) → length s.outlets ≤ 12 → length s.runs ≤ 4096
    → ((i : ℕ) (d : Run K) → i < length s.runs → ((get_or s.runs i d).a < s.junctions) × ((get_or s.runs i d).b < s.junctions))
    → ((j : ℕ) → j < length s.outlets → get_or s.outlets j 0 < s.junctions) → Priced kind s.runs → Facts kind s
facts_of kind s few laid ends inside priced = record {
  few = few;
  laid = laid;
  ends = λ u w c j. let x = each_open (λ r. (r.a < s.junctions) × (r.b < s.junctions)) s.runs s.«open» ends j in
      elim x.2 [
        | inl h ↦ let a = h.starts in let b = h.stops in let y = x.1.0 in let z = x.1.1 in (omega arith, omega arith)
        | inr h ↦ let a = h.starts in let b = h.stops in let y = x.1.0 in let z = x.1.1 in (omega arith, omega arith)
      ];
  prices = λ u w c j. let x = each_open (λ r. kind.bulk r.cost ≤ 1000000) s.runs s.«open» (λ i d l. (priced i d l).bulk_within) j in
      elim x.2 [ inl h ↦ subst (λ y. kind.bulk y ≤ 1000000) h.costs x.1 | inr h ↦ subst (λ y. kind.bulk y ≤ 1000000) h.costs x.1 ];
  inside = inside;
}

module _ {K : Type 0} {kind : Kind K} (laws : Laws kind) where
  same_either : (t : Bool) → cond t kind.zero kind.zero ≡ kind.zero
  same_either true = refl
  same_either false = refl

  pub far_same : (ds es : Distances K) (v I m : ℕ) → ((j : ℕ) → j < m → ds v j ≡ es v j) → farthest kind ds v I m ≡ farthest kind es v I m
  far_same ds es v I zero f = refl
  far_same ds es v I (suc m) f =
      let ih = far_same ds es v I m (λ j l. f j (omega arith)) in
      let e = f m (omega arith) in
      λ i. cond (in_set I m) (ih i) (greater kind (ih i) (unwrap_or (e i) kind.zero))

  bound_same : (n k : ℕ) (row : List (Option K)) (v I : ℕ) → k ≤ 12 → far_bound kind n k (in_row row) v I ≡ far_bound kind n k (in_row (take (n * 12) row)) v I
  bound_same n k row v I few = look (ltb v n) refl
    where
      look : (t : Bool) → ltb v n ≡ t
          → cond t (cond (ltb I (2 ^ (k - 1))) (farthest kind (in_row row) v I k) kind.zero) kind.zero
          ≡ cond t (cond (ltb I (2 ^ (k - 1))) (farthest kind (in_row (take (n * 12) row)) v I k) kind.zero) kind.zero
      look false e = refl
      look true e =
          let l = ltb-true v n e in
          ap (λ x. cond (ltb I (2 ^ (k - 1))) x kind.zero) (far_same (in_row row) (in_row (take (n * 12) row)) v I k (λ j m. sym (get_or-take (n * 12) row (v * 12 + j) None (omega arith))))

  module _ (l : Layout K) (row : List (Option K)) (few : length l.outlets ≤ 12)
      (made : take (l.junctions * 12) row ≡ table kind l.junctions l.runs l.«open» (length l.outlets) l.outlets) where
    -- what the rounds leave
    abbrev left : Distances K
    left = in_row (table kind l.junctions l.runs l.«open» (length l.outlets) l.outlets)

    -- the bound that the row holds
    abbrev held : ℕ → ℕ → K
    held v I = far_bound kind l.junctions (length l.outlets) (in_row row) v I

    held_is : (v I : ℕ) → held v I ≡ far_bound kind l.junctions (length l.outlets) left v I
    held_is v I = bound_same l.junctions (length l.outlets) row v I few ∙ (λ i. far_bound kind l.junctions (length l.outlets) (in_row (made i)) v I)

    pub prepared_far : (Priced kind l.runs → Facts kind l) → Far kind l held
    prepared_far facts = record { distances = left; measured = λ p. found_measured laws l (facts p); is = held_is }

    pub prepared : (Priced kind l.runs → Facts kind l) → Prepared kind l held
    prepared facts = record {
      lawful = λ p. subst (Lawful kind l) (λ i v I. sym (held_is v I) i) (found_lawful laws l (facts p));
      no_junction = λ v I h. cond-false (ltb v l.junctions) _ _ (le-ltb v l.junctions h);
      no_set = λ v I h.
          ap (λ x. cond (ltb v l.junctions) x kind.zero) (cond-false (ltb I (2 ^ (length l.outlets - 1))) _ _ (le-ltb I (2 ^ (length l.outlets - 1)) h)) ∙ same_either (ltb v l.junctions);
      no_outlet = λ v I h. held_is v I ∙ (ap (λ m. far_bound kind l.junctions m left v I) h ∙ (ap (λ x. cond (ltb v l.junctions) x kind.zero) (same_either (ltb I 1)) ∙ same_either (ltb v l.junctions)));
    }
