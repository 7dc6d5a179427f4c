-- Where a line, a comment and a word begin and end. Assumes nothing.
use Rattle.std.proofs.Common.{◌≡◌, ℕ, zero, suc, ◌+◌, ◌<◌, ◌≤◌, Bool, true, false, cond, not, nat_eq, List, [], ◌∷◌, length, get_or, take, drop, position, Some, None, Option, unwrap_or, sym, refl, ap, ◌∙◌, add-zero, arith, length-drop, get_or-drop}
use Rattle.std.specs.List.{position_or_len}
use Rattle.std.proofs.lemmas.List.{drop_all}
use Rattle.std.proofs.lemmas.List.Sums.{prefix_len-le-length, prefix_len_passes}
use native.Mathlib.Numerals.{one-add}
use Rattle.lines.specs.Words.{lines, blank, before, past, onto, pieces, full, words}

-- where the first that passes stands, by what `position` says
abbrev pub At : {X : Type 0} → (X → Bool) → List X → Option ℕ → Type 0
At p xs None = position_or_len p xs ≡ length xs
At p xs (Some r) = (position_or_len p xs ≡ r) × (r < length xs)

pub at : {X : Type 0} (p : X → Bool) (xs : List X) (o : Option ℕ) → o ≡ position p xs → At p xs o
at p xs None h = grind (arith, prefix_len-le-length (λ x. not (p x)) xs)
at p xs (Some r) h = grind (arith, prefix_len-le-length (λ x. not (p x)) xs)

-- the bytes before the first b
pub before_is : (b : ℕ) (xs : List ℕ) → before b xs ≡ take (position_or_len (λ x. nat_eq x b) xs) xs
before_is b [] = refl
before_is b (x ∷ xs) =
    elim (nat_eq x b) as (λ t. cond t [] (x ∷ before b xs) ≡ take (cond (not t) (1 + position_or_len (λ y. nat_eq y b) xs) 0) (x ∷ xs))
    [ true ↦ refl | false ↦ ap (λ l. x ∷ l) (before_is b xs) ∙ ap (λ n. take n (x ∷ xs)) (let e : suc (position_or_len (λ y. nat_eq y b) xs) ≡ 1 + position_or_len (λ y. nat_eq y b) xs = omega arith in e) ]

-- the bytes after it
past_some-byte : (b x : ℕ) (xs : List ℕ) (t : Bool) → cond (not t) (1 + position_or_len (λ y. nat_eq y b) xs) 0 < length (x ∷ xs)
    → (position_or_len (λ y. nat_eq y b) xs < length xs → past b xs ≡ Some (drop (suc (position_or_len (λ y. nat_eq y b) xs)) xs))
    → cond t (Some xs) (past b xs) ≡ Some (drop (suc (cond (not t) (1 + position_or_len (λ y. nat_eq y b) xs) 0)) (x ∷ xs))
past_some-byte b x xs true l e = refl
past_some-byte b x xs false l e = simp one-add (e (omega arith))

pub past_some : (b : ℕ) (xs : List ℕ) → position_or_len (λ x. nat_eq x b) xs < length xs → past b xs ≡ Some (drop (suc (position_or_len (λ x. nat_eq x b) xs)) xs)
past_some b [] l = absurd (omega arith)
past_some b (x ∷ xs) l = past_some-byte b x xs (nat_eq x b) l (past_some b xs)

past_none-byte : (b x : ℕ) (xs : List ℕ) (t : Bool) → cond (not t) (1 + position_or_len (λ y. nat_eq y b) xs) 0 ≡ length (x ∷ xs) → (position_or_len (λ y. nat_eq y b) xs ≡ length xs → past b xs ≡ None) → cond t (Some xs) (past b xs) ≡ None
past_none-byte b x xs true l e = absurd (omega arith)
past_none-byte b x xs false l e = e (omega arith)

pub past_none : (b : ℕ) (xs : List ℕ) → position_or_len (λ x. nat_eq x b) xs ≡ length xs → past b xs ≡ None
past_none b [] l = refl
past_none b (x ∷ xs) l = past_none-byte b x xs (nat_eq x b) l (past_none b xs)

-- what stands before the first line feed is the first line
abbrev pub lines_past : Option (List ℕ) → List (List ℕ)
lines_past None = []
lines_past (Some rest) = lines rest

pub first_line : (text : List ℕ) → 0 < length text → lines text ≡ before 10 text ∷ lines_past (past 10 text)
first_line [] l = absurd (omega arith)
first_line (x ∷ []) l =
    elim (nat_eq x 10) as (λ t. cond t ([] ∷ []) (onto x []) ≡ cond t [] (x ∷ []) ∷ lines_past (cond t (Some []) None))
    [ true ↦ refl | false ↦ refl ]
first_line (x ∷ y ∷ ys) l =
    elim (nat_eq x 10) as (λ t. cond t ([] ∷ lines (y ∷ ys)) (onto x (lines (y ∷ ys))) ≡ cond t [] (x ∷ before 10 (y ∷ ys)) ∷ lines_past (cond t (Some (y ∷ ys)) (past 10 (y ∷ ys))))
    [ true ↦ refl | false ↦ ap (onto x) (first_line (y ∷ ys) (omega arith)) ]

-- blanks at the front give no word
pub skipped : (xs : List ℕ) (r : ℕ) → r ≤ length xs → ((k : ℕ) → k < r → blank (get_or xs k 0) ≡ true) → words (drop r xs) ≡ words xs
skipped [] zero h f = refl
skipped [] (suc r) h f = absurd (omega arith)
skipped (x ∷ xs) zero h f = refl
skipped (x ∷ xs) (suc r) h f =
    skipped xs r (omega arith) (λ k l. f (suc k) (omega arith)) ∙ sym (ap (λ t. full (cond t ([] ∷ pieces xs) (onto x (pieces xs)))) (f 0 (omega arith)))

-- nothing but blanks
pub none_left : (xs rest : List ℕ) (r : ℕ) → rest ≡ drop r xs → r ≤ length xs → ((k : ℕ) → k < r → blank (get_or xs k 0) ≡ true) → (r < length xs → blank (get_or xs r 0) ≡ false) → (0 < length rest → blank (get_or rest 0 0) ≡ true) → words xs ≡ []
none_left xs [] r e h f s t = sym (skipped xs r h f) ∙ sym (ap words e)
none_left xs (y ∷ ys) r e h f s t =
    let next : y ≡ get_or xs r 0 = ap (λ l. get_or l 0 0) e ∙ get_or-drop r xs 0 0 ∙ ap (λ i. get_or xs i 0) (add-zero r) in
    let inside : r < length xs = omega (arith, ap length e, length-drop r xs) in
    let is : blank y ≡ false = ap blank next ∙ s inside in
    let isnt : blank y ≡ true = t (omega arith) in
    let wrong : true ≡ false = sym isnt ∙ is in
    let z : ◌≡◌ {A = ℕ} 0 1 = cc in
    absurd (omega arith)

-- where the first word begins, or the line ends
abbrev pub first_word : List ℕ → ℕ
first_word xs = position_or_len (λ b. not (blank b)) xs

blank_to : (xs : List ℕ) (k : ℕ) → k < first_word xs → blank (get_or xs k 0) ≡ true
blank_to xs k l = look (blank (get_or xs k 0)) (prefix_len_passes (λ b. not (not (blank b))) xs k 0 l) where
  look : (t : Bool) → not (not t) ≡ true → t ≡ true
  look true h = refl
  look false h = h

pub to_word : (xs : List ℕ) → words (drop (first_word xs) xs) ≡ words xs
to_word xs = skipped xs (first_word xs) (prefix_len-le-length (λ b. not (not (blank b))) xs) (blank_to xs)

pub no_word : (xs : List ℕ) → first_word xs ≡ length xs → words xs ≡ []
no_word xs h = none_left xs [] (length xs) (sym (drop_all (length xs) xs (omega arith))) (omega arith) (λ k l. blank_to xs k (omega (arith, h))) (λ l. absurd (omega arith)) (λ l. absurd (omega arith))

-- the pieces after the first
abbrev pub more : List ℕ → List (List ℕ)
more [] = []
more (x ∷ xs) = pieces xs

abbrev pub word_end : List ℕ → ℕ
word_end xs = position_or_len blank xs

split-blank : (x : ℕ) (xs : List ℕ) (t : Bool) → pieces xs ≡ take (word_end xs) xs ∷ more (drop (word_end xs) xs)
    → cond t ([] ∷ pieces xs) (onto x (pieces xs)) ≡ take (cond (not t) (1 + word_end xs) 0) (x ∷ xs) ∷ more (drop (cond (not t) (1 + word_end xs) 0) (x ∷ xs))
split-blank x xs true e = refl
split-blank x xs false e = simp one-add (ap (onto x) e)

split : (xs : List ℕ) → pieces xs ≡ take (word_end xs) xs ∷ more (drop (word_end xs) xs)
split [] = refl
split (x ∷ xs) = split-blank x xs (blank x) (split xs)

-- at a blank, the first piece is empty
at_blank-blank : (x : ℕ) (xs : List ℕ) (t : Bool) → blank x ≡ t → full (more (drop (word_end xs) xs)) ≡ words (drop (word_end xs) xs)
    → full (more (drop (cond (not t) (1 + word_end xs) 0) (x ∷ xs))) ≡ words (drop (cond (not t) (1 + word_end xs) 0) (x ∷ xs))
at_blank-blank x xs true h e = sym (ap (λ t. full (cond t ([] ∷ pieces xs) (onto x (pieces xs)))) h)
at_blank-blank x xs false h e = simp one-add e

at_blank : (xs : List ℕ) → full (more (drop (word_end xs) xs)) ≡ words (drop (word_end xs) xs)
at_blank [] = refl
at_blank (x ∷ xs) = at_blank-blank x xs (blank x) refl (at_blank xs)

-- the bytes up to a blank are the first word, where the first is no blank
first_full : (xs : List ℕ) (r : ℕ) (ps : List (List ℕ)) → 0 < r → r ≤ length xs → full (take r xs ∷ ps) ≡ take r xs ∷ full ps
first_full xs zero ps p h = absurd (omega arith)
first_full [] (suc r) ps p h = absurd (omega arith)
first_full (x ∷ xs) (suc r) ps p h = refl

pub worded : (xs : List ℕ) → 0 < word_end xs → words xs ≡ take (word_end xs) xs ∷ words (drop (word_end xs) xs)
worded xs p =
    ap full (split xs) ∙ first_full xs (word_end xs) (more (drop (word_end xs) xs)) p (prefix_len-le-length (λ b. not (blank b)) xs) ∙ ap (λ l. take (word_end xs) xs ∷ l) (at_blank xs)

-- a word begins where the first byte that is no blank stands
begins-blank : (x : ℕ) (xs : List ℕ) (t : Bool) → blank x ≡ t → cond (not (not t)) (1 + first_word xs) 0 < length (x ∷ xs) → (first_word xs < length xs → 0 < word_end (drop (first_word xs) xs)) → 0 < word_end (drop (cond (not (not t)) (1 + first_word xs) 0) (x ∷ xs))
begins-blank x xs true h l e = simp one-add (e (omega arith))
begins-blank x xs false h l e = grind (arith, h)

pub begins : (xs : List ℕ) → first_word xs < length xs → 0 < word_end (drop (first_word xs) xs)
begins [] l = absurd (omega arith)
begins (x ∷ xs) l = begins-blank x xs (blank x) refl l (begins xs)

-- the same, or the length where none passes
pub at_or_len : {X : Type 0} (p : X → Bool) (xs : List X) → unwrap_or (position p xs) (length xs) ≡ position_or_len p xs
at_or_len p xs = at_end (position p xs) (at p xs (position p xs) refl) where
  at_end : (o : Option ℕ) → At p xs o → unwrap_or o (length xs) ≡ position_or_len p xs
  at_end None h = sym h
  at_end (Some r) h = sym h.0
