-- The items of an iterator, one after the other.
use Rattle.std.proofs.Common.{◌≡◌, ℕ, zero, suc, ◌+◌, ◌-◌, ◌<◌, ◌≤◌, inl, inr, Bool, true, false, not, ◌&&◌, eqb, List, [], ◌∷◌, ◌++◌, length, Option, Some, None, refl, sym, ap, subst, ◌∙◌, append_assoc, append-nil, arith, ne_eqb}
use Rattle.std.proofs.lemmas.List.{length-append}
use Rattle.std.proofs.lemmas.Bool.{le-ltb, lt-ltb}
use Rattle.pg_wire.specs.Bytes.{number32}
use Rattle.pg_wire.specs.declared.error.Error.{Error}
use Rattle.pg_wire.specs.declared.error.Error.TheVariants as errors
use Rattle.pg_arguments.specs.declared.encode.IsNull.TheVariants as nulls
use Rattle.pg_arguments.specs.Types.{TypeParts}
use Rattle.pg_arguments.specs.Encoded.{Encoded, plain, joined, wires, overwritten}
use Rattle.pg_arguments.specs.Encoding.{Encoding, Refused, value_of, Extends, Appends, AddsValue, RefusesArgument, RefusesEncoding}
use Rattle.pg_arguments.specs.Arrays.{array_front, array_head, array_encoding, elements, AddsElements, RefusesElements}
use Rattle.pg_arguments.specs.Iterated.{behind, first_and, items_in, comes, goes_on, encoding_unless, iterated, AddsItems, RefusesItems}
use Rattle.pg_arguments.proofs.JoinLaws.{joined-assoc, rewritten}
use Rattle.pg_arguments.proofs.ElementLaws.{adds_next, adds_none, element_refuses, elements_extend, length_elements}

-- ---- the list of the items

items_same : {A : Type 0} (n : ℕ) (f g : ℕ → Option A) → ((k : ℕ) → f k ≡ g k) → items_in n f ≡ items_in n g
unfolding items_in
items_same zero f g h = refl
items_same (suc n) f g h =
    ap (λ o. first_and o (items_in n (behind f))) (h 0) ∙ ap (first_and (g 0)) (items_same n (behind f) (behind g) (λ k. h (suc k)))

item_first : {A : Type 0} (n : ℕ) (f g : ℕ → Option A) (x : A) → f 0 ≡ Some x → ((k : ℕ) → g k ≡ f (suc k)) → items_in (suc n) f ≡ x ∷ items_in n g
unfolding items_in
item_first n f g x e h = ap (λ o. first_and o (items_in n (behind f))) e ∙ ap (λ xs. x ∷ xs) (items_same n (behind f) g (λ k. sym (h k)))

no_item : {A : Type 0} (n : ℕ) (f : ℕ → Option A) → f 0 ≡ None → items_in n f ≡ []
unfolding items_in
no_item zero f e = refl
no_item (suc n) f e = ap (λ o. first_and o (items_in n (behind f))) e

none_left : {A : Type 0} (n : ℕ) (f : ℕ → Option A) → n ≡ 0 → items_in n f ≡ []
unfolding items_in
none_left zero f e = refl
none_left (suc n) f e = absurd (omega (arith, e))

length_first : {A : Type 0} (o : Option A) (xs : List A) (n : ℕ) → length xs ≤ n → length (first_and o xs) ≤ suc n
length_first None xs n le = omega arith
length_first (Some x) xs n le = omega (arith, le)

length_items : {A : Type 0} (n : ℕ) (f : ℕ → Option A) → length (items_in n f) ≤ n
unfolding items_in
length_items zero f = omega arith
length_items (suc n) f = length_first (f 0) (items_in n (behind f)) n (length_items n (behind f))

-- ---- a loop that has taken k items

abbrev pub Reached : {A : Type 0} → ℕ → (A → Encoding) → (ℕ → Option A) → ℕ → (ℕ → Option A) → Encoded → Encoded → Type 0
Reached {A} most encoding whole k here old new =
    (done : List A) × (length done ≡ k) × (items_in most whole ≡ done ++ items_in (most - k) here) × ((j : ℕ) → here j ≡ whole (k + j)) × AddsElements (elements encoding done) old new

pub nothing_taken : {A : Type 0} (most : ℕ) (encoding : A → Encoding) (whole : ℕ → Option A) (old : Encoded) → Reached most encoding whole 0 whole old old
nothing_taken most encoding whole old =
    let all : most - 0 ≡ most = omega arith in
    ([], refl, ap (λ n. items_in n whole) (sym all), (λ j. ap whole (omega arith)), adds_none old)

pub one_taken : {A : Type 0} (most : ℕ) (encoding : A → Encoding) (whole : ℕ → Option A) (k : ℕ) (here next : ℕ → Option A) (x : A) (old mid new : Encoded) → Reached most encoding whole k here old mid
    → k < most → Some x ≡ here 0 → ((j : ℕ) → next j ≡ here (suc j)) → AddsValue (value_of (encoding x)) mid new → Reached most encoding whole (k + 1) next old new
one_taken most encoding whole k here next x old mid new r lt e h a =
    let left : most - k ≡ suc (most - (k + 1)) = omega (arith, lt) in
    let items : items_in (most - k) here ≡ x ∷ items_in (most - (k + 1)) next = ap (λ n. items_in n here) left ∙ item_first (most - (k + 1)) here next x (sym e) h in (
      r.0 ++ x ∷ [],
      omega (arith, length-append r.0 (x ∷ []), r.1),
      r.2 ∙ ap (λ xs. r.0 ++ xs) items ∙ sym (append_assoc r.0 (x ∷ []) (items_in (most - (k + 1)) next)),
      (λ j. h j ∙ r.3 (suc j) ∙ ap whole (omega arith)),
      adds_next encoding r.0 x old mid new r.4 a,
    )

refuses_by : {A : Type 0} (most : ℕ) (encoding : A → Encoding) (whole : ℕ → Option A) (e : Error) → RefusesElements (elements encoding (items_in most whole)) e → RefusesItems most encoding whole e
refuses_by most encoding whole errors.OutOfMemory r = tt
refuses_by most encoding whole (errors.Encode index) r = inr r
refuses_by most encoding whole _ r = absurd r

pub one_refused : {A : Type 0} (most : ℕ) (encoding : A → Encoding) (whole : ℕ → Option A) (k : ℕ) (here : ℕ → Option A) (x : A) (old mid : Encoded) (place : ℕ) (e : Error) → Reached most encoding whole k here old mid
    → k < most → Some x ≡ here 0 → RefusesArgument place (value_of (encoding x)) e → RefusesItems most encoding whole e
one_refused most encoding whole k here x old mid place e r lt first bad =
    let left : most - k ≡ suc (most - (k + 1)) = omega (arith, lt) in
    let items : items_in (most - k) here ≡ x ∷ items_in (most - (k + 1)) (behind here) = ap (λ n. items_in n here) left ∙ item_first (most - (k + 1)) here (behind here) x (sym first) (λ j. refl) in
    refuses_by most encoding whole e (element_refuses encoding (items_in most whole) r.0 x (items_in (most - (k + 1)) (behind here)) place e (r.2 ∙ ap (λ xs. r.0 ++ xs) items) bad)

-- ---- the end

and_false : (a b : Bool) → b ≡ false → (a && b) ≡ false
and_false true b e = e
and_false false b e = refl

all_taken : {A : Type 0} (most : ℕ) (encoding : A → Encoding) (whole : ℕ → Option A) (k : ℕ) (here : ℕ → Option A) (old new : Encoded) → Reached most encoding whole k here old new
    → items_in (most - k) here ≡ [] → (n : List A) × (items_in most whole ≡ n) × (length n ≡ k) × AddsElements (elements encoding n) old new
all_taken most encoding whole k here old new r e = (r.0, r.2 ∙ ap (λ xs. r.0 ++ xs) e ∙ append-nil r.0, r.1, r.4)

adds_taken : {A : Type 0} (most : ℕ) (encoding : A → Encoding) (whole : ℕ → Option A) (k : ℕ) (here : ℕ → Option A) (old new : Encoded) → Reached most encoding whole k here old new
    → items_in (most - k) here ≡ [] → goes_on most whole k ≡ false → AddsItems most encoding whole k old new
adds_taken most encoding whole k here old new r e last =
    let t = all_taken most encoding whole k here old new r e in
    rw t.1 (sym t.2, last, t.3)

refuses_taken : {A : Type 0} (most : ℕ) (encoding : A → Encoding) (whole : ℕ → Option A) (k : ℕ) (here : ℕ → Option A) (old new : Encoded) (index : ℕ) → Reached most encoding whole k here old new
    → items_in (most - k) here ≡ [] → goes_on most whole k ≡ true → RefusesItems most encoding whole (errors.Encode index)
refuses_taken most encoding whole k here old new index r e more =
    let t = all_taken most encoding whole k here old new r e in
    inl (ap (goes_on most whole) (ap length t.1 ∙ t.2) ∙ more)

-- whether one more comes behind the end, and past so many
behind_end : {A : Type 0} (most : ℕ) (whole : ℕ → Option A) (k : ℕ) (here after : ℕ → Option A) → k < most → ((j : ℕ) → here j ≡ whole (k + j)) → ((j : ℕ) → after j ≡ here (suc j))
    → goes_on most whole k ≡ (not (eqb k 0) && comes (after 0))
behind_end most whole k here after lt h g =
    let same : whole (k + 1) ≡ after 0 = sym (h 1) ∙ sym (g 0) in
    rw (lt-ltb k most lt, same) refl

past_all : {A : Type 0} (most : ℕ) (whole : ℕ → Option A) (here : ℕ → Option A) → ((j : ℕ) → here j ≡ whole (most + j)) → goes_on most whole most ≡ (not (eqb most 0) && comes (here 0))
past_all most whole here h =
    let same : whole most ≡ here 0 = ap whole (omega arith) ∙ sym (h 0) in
    rw (le-ltb most most (omega arith), same) refl

pub ends_here : {A : Type 0} (most : ℕ) (encoding : A → Encoding) (whole : ℕ → Option A) (k : ℕ) (here after : ℕ → Option A) (old new : Encoded) → Reached most encoding whole k here old new
    → k < most → None ≡ here 0 → ((j : ℕ) → after j ≡ here (suc j)) → (not (eqb k 0) && comes (after 0)) ≡ false → AddsItems most encoding whole k old new
ends_here most encoding whole k here after old new r lt e g last =
    adds_taken most encoding whole k here old new r (no_item (most - k) here (sym e)) (behind_end most whole k here after lt r.3 g ∙ last)

pub goes_on_here : {A : Type 0} (most : ℕ) (encoding : A → Encoding) (whole : ℕ → Option A) (k : ℕ) (here after : ℕ → Option A) (old new : Encoded) (index : ℕ) → Reached most encoding whole k here old new
    → k < most → None ≡ here 0 → ((j : ℕ) → after j ≡ here (suc j)) → (not (eqb k 0) && comes (after 0)) ≡ true → RefusesItems most encoding whole (errors.Encode index)
goes_on_here most encoding whole k here after old new index r lt e g more =
    refuses_taken most encoding whole k here old new index r (no_item (most - k) here (sym e)) (behind_end most whole k here after lt r.3 g ∙ more)

pub full_here : {A : Type 0} (most : ℕ) (encoding : A → Encoding) (whole : ℕ → Option A) (k : ℕ) (here : ℕ → Option A) (old new : Encoded) → k ≡ most → Reached most encoding whole k here old new
    → comes (here 0) ≡ false → AddsItems most encoding whole most old new
full_here most encoding whole k here old new e r last =
    let all = subst (λ (n : ℕ). Reached most encoding whole n here old new) e r in
    adds_taken most encoding whole most here old new all (none_left (most - most) here (omega arith)) (past_all most whole here all.3 ∙ and_false (not (eqb most 0)) (comes (here 0)) last)

pub past_here : {A : Type 0} (most : ℕ) (encoding : A → Encoding) (whole : ℕ → Option A) (k : ℕ) (here : ℕ → Option A) (old new : Encoded) (index : ℕ) → k ≡ most → Reached most encoding whole k here old new
    → 0 < most → comes (here 0) ≡ true → RefusesItems most encoding whole (errors.Encode index)
past_here most encoding whole k here old new index e r lt more =
    let all = subst (λ (n : ℕ). Reached most encoding whole n here old new) e r in
    let some : eqb most 0 ≡ false = ne_eqb most 0 (λ z. absurd (omega (arith, z, lt))) in
    refuses_taken most encoding whole most here old new index all (none_left (most - most) here (omega arith)) (past_all most whole here all.3 ∙ rw some more)

pub reached_extends : {A : Type 0} (most : ℕ) (encoding : A → Encoding) (whole : ℕ → Option A) (k : ℕ) (here : ℕ → Option A) (old new : Encoded) → Reached most encoding whole k here old new → Extends old new
reached_extends most encoding whole k here old new r = elements_extend (elements encoding r.0) old new r.4

-- ---- the whole array

abbrev pub no_number : List ℕ
no_number = 0 ∷ 0 ∷ 0 ∷ 0 ∷ []

iterated_in : (of : TypeParts) (vs : Option (List (Option Encoded))) (n : ℕ) (old front mid end new : Encoded) → front ≡ joined old (array_front of) → mid ≡ joined front (plain (no_number ++ number32 1))
    → AddsElements vs mid end → new ≡ record { bytes = overwritten (length front.bytes) (number32 n) end.bytes; holes = end.holes; values = end.values } → n ≤ 2147483647 → ((ws : List (Option Encoded)) → vs ≡ Some ws → length ws ≡ n)
    → Appends (array_encoding of vs) nulls.No old new
iterated_in of None n old front mid end new f m a w le h = absurd a
iterated_in of (Some vs) n old front mid end new f m a w le h =
    let rest : Encoded = joined (plain (number32 1)) (wires vs) in
    let laid : end ≡ joined (joined front (plain no_number)) rest =
    a ∙ ap (λ (x : Encoded). joined x (wires vs)) (m ∙ sym (joined-assoc front (plain no_number) (plain (number32 1)))) ∙ joined-assoc (joined front (plain no_number)) (plain (number32 1)) (wires vs) in
    let written : new ≡ joined (joined front (plain (number32 n))) rest =
    w ∙ ap (λ (x : Encoded). record { bytes = overwritten (length front.bytes) (number32 n) x.bytes; holes = x.holes; values = x.values }) laid ∙ rewritten front rest no_number (number32 n) refl in
    let whole : joined (joined front (plain (number32 n))) rest ≡ joined old (joined (array_head of n) (wires vs)) =
    sym (joined-assoc (joined front (plain (number32 n))) (plain (number32 1)) (wires vs)) ∙ ap (λ (x : Encoded). joined x (wires vs)) (joined-assoc front (plain (number32 n)) (plain (number32 1)))
    ∙ ap (λ (x : Encoded). joined (joined x (plain (number32 n ++ number32 1))) (wires vs)) f ∙ ap (λ (x : Encoded). joined x (wires vs)) (joined-assoc old (array_front of) (plain (number32 n ++ number32 1)))
    ∙ joined-assoc old (array_head of n) (wires vs) in
    rw (le-ltb 2147483647 (length vs) (omega (arith, le, h vs refl)), h vs refl) (written ∙ whole)

appends_unless : (b : Bool) (e : Encoding) (old new : Encoded) → b ≡ false → Appends e nulls.No old new → Appends (encoding_unless b e) nulls.No old new
appends_unless true e old new h a = absurd cc
appends_unless false e old new h a = a

pub encodes_items : {A : Type 0} (of : TypeParts) (encoding : A → Encoding) (answers : ℕ → Option A) (n : ℕ) (old front mid end new : Encoded) → front ≡ joined old (array_front of)
    → mid ≡ joined front (plain (no_number ++ number32 1)) → AddsItems 2147483647 encoding answers n mid end
    → new ≡ record { bytes = overwritten (length front.bytes) (number32 n) end.bytes; holes = end.holes; values = end.values } → Appends (iterated 2147483647 of encoding answers) nulls.No old new
encodes_items of encoding answers n old front mid end new f m a w =
    appends_unless (goes_on 2147483647 answers (length (items_in 2147483647 answers))) (array_encoding of (elements encoding (items_in 2147483647 answers))) old new
    (ap (goes_on 2147483647 answers) (sym a.0) ∙ a.1)
    (iterated_in of (elements encoding (items_in 2147483647 answers)) n old front mid end new f m a.2 w (omega (arith, a.0, length_items 2147483647 answers))
    (λ ws e. length_elements encoding (items_in 2147483647 answers) ws e ∙ sym a.0))

unless_refused : (b : Bool) → encoding_unless b Refused ≡ Refused
unless_refused true = refl
unless_refused false = refl

pub refuses_iterated : {A : Type 0} (most : ℕ) (of : TypeParts) (encoding : A → Encoding) (answers : ℕ → Option A) (e : Error) → RefusesItems most encoding answers e → RefusesEncoding (iterated most of encoding answers) e
refuses_iterated most of encoding answers errors.OutOfMemory r = tt
refuses_iterated most of encoding answers (errors.Encode index) r = elim r [
  | inl more ↦ rw more refl
  | inr none ↦ rw none (unless_refused (goes_on most answers (length (items_in most answers))))
]
refuses_iterated most of encoding answers _ r = absurd r
