-- What a view says of the labels' memory, and of its outlets. Assumes nothing.
use Rattle.std.proofs.Common.{◌≡◌, ℕ, suc, ◌-◌, ◌<◌, ◌≤◌, true, false, eqb, ltb, ◌⊎◌, List, [], ◌∷◌, length, get_or, take, drop, Ok, Err, Result, sym, refl, ◌∙◌, subst, inl, inr, arith}
use Rattle.std.proofs.lemmas.List.{take_all}
use Rattle.std.proofs.lemmas.Bool.{cases_Bool, cond-true, cond-false, eqb-false, ltb-false}
use Rattle.network.specs.declared.run.Run.{Run}
use Rattle.network.specs.declared.refusal.Refusal.{Refusal}
use Rattle.network.specs.declared.refusal.Refusal.TheVariants.{NoOutlet, LabelMemory, QueueCapacity}
use Rattle.network.specs.Layouts.{Layout}
use Rattle.labelling.specs.declared.kinds.Size.{Size}
use Rattle.labelling.specs.Tables.{codes}
use Rattle.labelling.specs.Runs.{Ends}
use Rattle.labelling.specs.Starts.{Within, size_of}
use Rattle.labelling.specs.Questions.{room_answer}

-- what holds at each place holds along the list
pub ends_from : {K : Type 0} (n : ℕ) (xs : List (Run K)) → ((k : ℕ) (d : Run K) → k < length xs → ((get_or xs k d).a < n) × ((get_or xs k d).b < n)) → Ends n xs
ends_from n [] h = tt
ends_from n (x ∷ xs) h = let e = h 0 x (omega arith) in (e.0, e.1, ends_from n xs (λ k d lt. h (suc k) d (omega arith)))

within_from : (n : ℕ) (xs : List ℕ) → ((k : ℕ) → k < length xs → get_or xs k 0 < n) → Within n xs
within_from n [] h = tt
within_from n (x ∷ xs) h = (h 0 (omega arith), within_from n xs (λ k lt. h (suc k) (omega arith)))

length_rest : (xs : List ℕ) → length (drop 1 xs) ≡ length xs - 1
length_rest [] = refl
length_rest (x ∷ xs) = omega arith

getd_rest : (xs : List ℕ) (k : ℕ) → get_or (drop 1 xs) k 0 ≡ get_or xs (suc k) 0
getd_rest [] k = refl
getd_rest (x ∷ xs) k = refl

-- the outlets beside the root, as the code reads them
pub others_are : (os : List ℕ) → take (length os - 1) (drop 1 os) ≡ drop 1 os
others_are os = let long = length_rest os in take_all (length os - 1) (drop 1 os) (omega arith)

pub others_within : (n : ℕ) (os : List ℕ) → ((k : ℕ) → k < length os → get_or os k 0 < n) → Within n (drop 1 os)
others_within n os inside =
    within_from n (drop 1 os)
    (λ k lt.
    let long = length_rest os in
    subst (λ x. x < n) (sym (getd_rest os k)) (inside (suc k) (omega arith)))

-- the room that the questions found
pub record Room {K : Type 0} (l : Layout K) (places capacity : ℕ) (size : Size) : Type 0 where
  pub marked : 0 < length l.outlets
  pub is : size ≡ size_of l
  pub labels : codes (size_of l) ≤ places
  pub queue : codes (size_of l) ≤ capacity

pub asked_room : {K : Type 0} (l : Layout K) (places capacity : ℕ) (size : Size) → Ok size ≡ room_answer l places capacity → Room l places capacity size
asked_room l places capacity size e = by_tests (cases_Bool (eqb (length l.outlets) 0)) (cases_Bool (ltb places (codes (size_of l)))) (cases_Bool (ltb capacity (codes (size_of l))))
  where
    refused : {X : Type 0} (x : X) (why : Refusal) {G : Type 0} → ◌≡◌ {A = Result X Refusal} (Ok x) (Err why) → G
    refused x why q = absurd (let z : ◌≡◌ {A = ℕ} 0 1 = cc in omega arith)

    by_tests : (eqb (length l.outlets) 0 ≡ true) ⊎ (eqb (length l.outlets) 0 ≡ false) → (ltb places (codes (size_of l)) ≡ true) ⊎ (ltb places (codes (size_of l)) ≡ false) → (ltb capacity (codes (size_of l)) ≡ true) ⊎ (ltb capacity (codes (size_of l)) ≡ false) → Room l places capacity size
    by_tests (inl a) b c = refused size NoOutlet (e ∙ cond-true _ _ _ a)
    by_tests (inr a) (inl b) c = refused size LabelMemory (e ∙ cond-false _ _ _ a ∙ cond-true _ _ _ b)
    by_tests (inr a) (inr b) (inl c) = refused size QueueCapacity (e ∙ cond-false _ _ _ a ∙ cond-false _ _ _ b ∙ cond-true _ _ _ c)
    by_tests (inr a) (inr b) (inr c) =
        let q : ◌≡◌ {A = Result Size Refusal} (Ok size) (Ok (size_of l)) = e ∙ cond-false _ _ _ a ∙ cond-false _ _ _ b ∙ cond-false _ _ _ c in
        let n = eqb-false (length l.outlets) 0 a in
        record {
          marked = omega arith;
          is = cc;
          labels = ltb-false places (codes (size_of l)) b;
          queue = ltb-false capacity (codes (size_of l)) c;
        }
