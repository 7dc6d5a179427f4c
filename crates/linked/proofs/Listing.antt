-- One more call of a list, and the end of the list. Assumes nothing.
use Rattle.std.proofs.Common.{◌≡◌, ℕ, ◌+◌, ◌<◌, ◌≤◌, List, length, get_or, drop, sym, ap}
use Rattle.std.proofs.lemmas.List.{drop_all, drop_more}
use Rattle.network.specs.declared.money.Money.{Money}
use Rattle.network.specs.Money.{money_kind}
use Rattle.district.specs.Model.{Model, after_lay, after_mark}
use Rattle.linked.specs.declared.kinds.Street.{Street}
use Rattle.linked.specs.Lists.{all_laid, all_marked}

pub laid_more : (ss : List Street) (i : ℕ) (d : Street) (m : Model Money) → i < length ss
    → all_laid (drop (i + 1) ss) (after_lay money_kind m (get_or ss i d).a (get_or ss i d).b (record { amount = (get_or ss i d).cost })) ≡ all_laid (drop i ss) m
laid_more ss i d m l = ap (λ xs. all_laid xs m) (sym (drop_more ss i d l))

pub laid_end : (ss : List Street) (i : ℕ) (m : Model Money) → length ss ≤ i → all_laid (drop i ss) m ≡ m
laid_end ss i m l = ap (λ xs. all_laid xs m) (drop_all i ss l)

pub marked_more : (js : List ℕ) (i d : ℕ) (m : Model Money) → i < length js → all_marked (drop (i + 1) js) (after_mark m (get_or js i d)) ≡ all_marked (drop i js) m
marked_more js i d m l = ap (λ xs. all_marked xs m) (sym (drop_more js i d l))

pub marked_end : (js : List ℕ) (i : ℕ) (m : Model Money) → length js ≤ i → all_marked (drop i js) m ≡ m
marked_end js i m l = ap (λ xs. all_marked xs m) (drop_all i js l)
