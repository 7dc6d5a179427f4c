-- Blank tables, one more outlet, and the sets of k outlets. Assumes nothing.
use Rattle.std.proofs.Common.{◌≡◌, ℕ, zero, suc, ◌+◌, ◌^◌, ◌<◌, ◌≤◌, Bool, true, false, cond, List, [], ◌∷◌, ◌++◌, length, get_or, drop, replicate, None, Option, sym, refl, ap, subst, arith}
use lib.Bits.{or_lt}
use Rattle.std.proofs.lemmas.List.{drop_more}
use Rattle.labelling.specs.Forks.{Closed}
use Rattle.labelling.specs.Starts.{wiped, Within}

module _ {X : Type 0} (x : X) where
  front_at : (n : ℕ) (ys : List X) (k : ℕ) (d : X) → k < n → get_or (replicate n x ++ ys) k d ≡ x
  front_at zero ys k d lt = absurd (omega arith)
  front_at (suc n) ys zero d lt = refl
  front_at (suc n) ys (suc k) d lt = front_at n ys k d (omega arith)

  pub getd_wiped : (n : ℕ) (xs : List X) (k : ℕ) (d : X) → k < n → get_or (wiped n x xs) k d ≡ x
  getd_wiped n xs k d lt = front_at n (drop n xs) k d lt

  pub length_wiped : (n : ℕ) (xs : List X) → n ≤ length xs → length (wiped n x xs) ≡ length xs
  length_wiped zero xs le = refl
  length_wiped (suc n) [] le = absurd (omega arith)
  length_wiped (suc n) (y ∷ ys) le = ap suc (length_wiped n ys (omega arith))

none_at : {K : Type 0} (n c : ℕ) → get_or {A = Option K} (replicate n None) c None ≡ None
none_at zero c = refl
none_at (suc n) zero = refl
none_at (suc n) (suc c) = none_at n c

unreached : {K : Type 0} (a b : Bool) (o : Option K) → cond (cond a (cond b false false) false) o None ≡ None
unreached true true o = refl
unreached true false o = refl
unreached false b o = refl

module _ (outlets : List ℕ) (i : ℕ) (l : i < length outlets) where
  pub within_more : (n : ℕ) → Within n (drop i outlets) → (get_or outlets i 0 < n) × Within n (drop (i + 1) outlets)
  within_more n f = subst (Within n) (drop_more outlets i 0 l) f

pub closed_sets : (n k : ℕ) → n ≡ 2 ^ k → Closed n
closed_sets n k e = subst Closed (sym e) (or_lt k)
