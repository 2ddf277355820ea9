-- Encoded values one behind the other, and the places in them that are open.
use Rattle.std.proofs.Common.{◌≡◌, ℕ, zero, suc, ◌+◌, ◌<◌, ◌≤◌, List, [], ◌∷◌, ◌++◌, length, take, drop, map, get_or, refl, ap, ◌∙◌, append_assoc, append-nil, arith}
use Rattle.std.specs.Prelude.{remove}
use Rattle.std.proofs.lemmas.List.{length-append, map-append, take_at, drop_at}
use Rattle.pg_arguments.specs.declared.hole.Hole.{Hole}
use Rattle.pg_arguments.specs.Types.{TypeParts}
use Rattle.pg_arguments.specs.Encoded.{Encoded, plain, open_oid, moved, joined, AreBetween, AreInside, overwritten, place_at, patched_with}

pub between_grows : (from m n : ℕ) (hs : List Hole) → m ≤ n → AreBetween from m hs → AreBetween from n hs
between_grows from m n [] le h = omega (arith, h, le)
between_grows from m n (x ∷ xs) le h = (h.0, between_grows (x.place + 4) m n xs le h.1)

pub between_lower : (from to size : ℕ) (hs : List Hole) → from ≤ to → AreBetween to size hs → AreBetween from size hs
between_lower from to size [] le h = omega (arith, h, le)
between_lower from to size (x ∷ xs) le h = (omega (arith, h.0, le), h.1)

pub between_room : (from size : ℕ) (hs : List Hole) → AreBetween from size hs → from ≤ size
between_room from size [] h = h
between_room from size (x ∷ xs) h = omega (arith, h.0, between_room (x.place + 4) size xs h.1)

-- one more behind the last bytes
pub between_next : (from size place all : ℕ) (hs : List Hole) (of : TypeParts) → place ≡ size → all ≡ size + 4 → AreBetween from size hs → AreBetween from all (hs ++ record { place = place; of = of } ∷ [])
between_next from size place all [] of e f h = (omega (arith, h, e), omega (arith, e, f))
between_next from size place all (x ∷ xs) of e f h = (h.0, between_next (x.place + 4) size place all xs of e f h.1)

pub place_at_is : (hs : List Hole) (k : ℕ) (h : Hole) → k < length hs → h ≡ get_or hs k h → place_at hs k ≡ h.place
place_at_is [] k h lt e = absurd (omega (arith, lt))
place_at_is (x ∷ xs) zero h lt e = rw e refl
place_at_is (x ∷ xs) (suc k) h lt e = place_at_is xs k h (omega (arith, lt)) e

place_at-append : (hs : List Hole) (h : Hole) (ks : List Hole) → place_at ((hs ++ h ∷ []) ++ ks) (length hs) ≡ h.place
place_at-append [] h ks = refl
place_at-append (x ∷ xs) h ks = place_at-append xs h ks

pub remove_at : {A : Type 0} (xs : List A) (x : A) (ys : List A) → remove ((xs ++ x ∷ []) ++ ys) (length xs) ≡ (xs ++ []) ++ ys
remove_at [] x ys = refl
remove_at (y ∷ xs) x ys = ap (λ zs. y ∷ zs) (remove_at xs x ys)

pub overwritten_at : (front old back new : List ℕ) (n : ℕ) → length front ≡ n → length new ≡ length old → overwritten n new ((front ++ old) ++ back) ≡ (front ++ new) ++ back
overwritten_at front old back new n at same =
    let start : take n ((front ++ old) ++ back) ≡ front = ap (take n) (append_assoc front old back) ∙ take_at front (old ++ back) n at in
    let end : drop (n + length new) ((front ++ old) ++ back) ≡ back = drop_at (front ++ old) back (n + length new) (omega (arith, length-append front old, at, same)) in
    rw (start, end) refl

pub moved_same : (m n : ℕ) (hs : List Hole) → m ≡ n → map (moved m) hs ≡ map (moved n) hs
moved_same m n hs e = rw e refl

pub patched_open : (front back : Encoded) (of : TypeParts) (four : List ℕ) (k : ℕ) → length four ≡ 4 → length front.holes ≡ k
    → patched_with k four (joined (joined front (open_oid of)) back) ≡ joined (joined front (plain four)) back
patched_open front back of four k size at =
    let place : place_at (joined (joined front (open_oid of)) back).holes k ≡ length front.bytes =
    rw (← at) (place_at-append front.holes (moved (length front.bytes) (record { place = 0; of = of })) (map (moved (length (front.bytes ++ 0 ∷ 0 ∷ 0 ∷ 0 ∷ []))) back.holes) ∙ omega arith) in
    let bytes : overwritten (length front.bytes) four ((front.bytes ++ 0 ∷ 0 ∷ 0 ∷ 0 ∷ []) ++ back.bytes) ≡ (front.bytes ++ four) ++ back.bytes =
    overwritten_at front.bytes (0 ∷ 0 ∷ 0 ∷ 0 ∷ []) back.bytes four (length front.bytes) refl (omega (arith, size)) in
    let rest : map (moved (length (front.bytes ++ 0 ∷ 0 ∷ 0 ∷ 0 ∷ []))) back.holes ≡ map (moved (length (front.bytes ++ four))) back.holes =
    moved_same _ _ back.holes (omega (arith, size, length-append front.bytes four, length-append front.bytes (0 ∷ 0 ∷ 0 ∷ 0 ∷ []))) in
    let holes : remove (joined (joined front (open_oid of)) back).holes k ≡ (front.holes ++ []) ++ map (moved (length (front.bytes ++ four))) back.holes =
    rw (← at, ← rest) (remove_at front.holes (moved (length front.bytes) (record { place = 0; of = of })) (map (moved (length (front.bytes ++ 0 ∷ 0 ∷ 0 ∷ 0 ∷ []))) back.holes)) in
    rw (place, bytes, holes) refl

moved_twice : (m n k : ℕ) (hs : List Hole) → m + n ≡ k → map (moved k) hs ≡ map (moved m) (map (moved n) hs)
moved_twice m n k [] e = refl
moved_twice m n k (h ∷ hs) e =
    let place : k + h.place ≡ m + (n + h.place) = omega (arith, e) in
    rw (moved_twice m n k hs e, place) refl

pub joined-assoc : (a b c : Encoded) → joined (joined a b) c ≡ joined a (joined b c)
joined-assoc a b c =
    let bytes : (a.bytes ++ b.bytes) ++ c.bytes ≡ a.bytes ++ (b.bytes ++ c.bytes) = append_assoc a.bytes b.bytes c.bytes in
    let far : map (moved (length (a.bytes ++ b.bytes))) c.holes ≡ map (moved (length a.bytes)) (map (moved (length b.bytes)) c.holes) =
    moved_twice (length a.bytes) (length b.bytes) (length (a.bytes ++ b.bytes)) c.holes (omega (arith, length-append a.bytes b.bytes)) in
    let holes : (a.holes ++ map (moved (length a.bytes)) b.holes) ++ map (moved (length (a.bytes ++ b.bytes))) c.holes ≡ a.holes ++ map (moved (length a.bytes)) (b.holes ++ map (moved (length b.bytes)) c.holes) =
    rw (far, map-append (moved (length a.bytes)) b.holes (map (moved (length b.bytes)) c.holes)) (append_assoc a.holes (map (moved (length a.bytes)) b.holes) (map (moved (length a.bytes)) (map (moved (length b.bytes)) c.holes))) in
    let values : (a.values + b.values) + c.values ≡ a.values + (b.values + c.values) = omega arith in
    rw (bytes, holes, values) refl

pub joined_nil : (a : Encoded) → joined a (plain []) ≡ a
joined_nil a = let values : a.values + 0 ≡ a.values = omega arith in rw (append-nil a.bytes, append-nil a.holes, values) refl

moved_none : (hs : List Hole) → map (moved 0) hs ≡ hs
moved_none [] = refl
moved_none (h ∷ hs) = let place : 0 + h.place ≡ h.place = omega arith in rw (moved_none hs, place) refl

pub joined_first : (a : Encoded) → joined (plain []) a ≡ a
joined_first a = let values : 0 + a.values ≡ a.values = omega arith in rw (moved_none a.holes, values) refl

-- new bytes of the same number behind a first part
pub rewritten : (old rest : Encoded) (was now : List ℕ) → length now ≡ length was
    → record { bytes = overwritten (length old.bytes) now (joined (joined old (plain was)) rest).bytes; holes = (joined (joined old (plain was)) rest).holes; values = (joined (joined old (plain was)) rest).values } ≡ joined (joined old (plain now)) rest
rewritten old rest was now same =
    let bytes : overwritten (length old.bytes) now ((old.bytes ++ was) ++ rest.bytes) ≡ (old.bytes ++ now) ++ rest.bytes = overwritten_at old.bytes was rest.bytes now (length old.bytes) refl same in
    let far : map (moved (length (old.bytes ++ was))) rest.holes ≡ map (moved (length (old.bytes ++ now))) rest.holes = moved_same _ _ rest.holes (omega (arith, same, length-append old.bytes was, length-append old.bytes now)) in
    rw (bytes, far) refl

between_unmoved : (m n k from to : ℕ) (hs : List Hole) → k ≤ m + n → m + from ≤ to → AreBetween to k (map (moved m) hs) → AreBetween from n hs
between_unmoved m n k from to [] le at h = omega (arith, h, le, at)
between_unmoved m n k from to (x ∷ xs) le at h = (omega (arith, h.0, at), between_unmoved m n k (x.place + 4) (m + x.place + 4) xs le (omega arith) h.1)

all_unmoved : (m n k from : ℕ) (hs : List Hole) → k ≤ m + n → AreBetween from k (map (moved m) hs) → AreBetween 0 n hs
all_unmoved m n k from [] le h = omega arith
all_unmoved m n k from (x ∷ xs) le h = (omega arith, between_unmoved m n k (x.place + 4) (m + x.place + 4) xs le (omega arith) h.1)

between_second : (from size : ℕ) (hs ks : List Hole) → AreBetween from size (hs ++ ks) → AreBetween 0 size ks
between_second from size [] ks h = between_lower 0 from size ks (omega arith) h
between_second from size (x ∷ xs) ks h = between_second (x.place + 4) size xs ks h.1

pub inside_part : (a b : Encoded) → AreInside (joined a b) → AreInside b
inside_part a b h =
    all_unmoved (length a.bytes) (length b.bytes) (length (a.bytes ++ b.bytes)) 0 b.holes (omega (arith, length-append a.bytes b.bytes))
    (between_second 0 (length (a.bytes ++ b.bytes)) a.holes (map (moved (length a.bytes)) b.holes) h)
