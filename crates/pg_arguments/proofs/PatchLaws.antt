-- An open OID that becomes known stays within the value in which it stands.
use Rattle.std.proofs.Common.{◌≡◌, ℕ, zero, suc, ◌+◌, ◌-◌, ◌<◌, ◌≤◌, ◌⊎◌, inl, inr, List, [], ◌∷◌, ◌++◌, length, take, drop, map, Option, Some, None, refl, sym, ap, subst, ◌∙◌, append_assoc, get_or, arith}
use Rattle.std.specs.Prelude.{remove}
use Rattle.std.specs.List.{AllByRecursion}
use Rattle.std.proofs.lemmas.List.{length-append, take-append-le, length-take-le}
use Rattle.pg_wire.specs.Bytes.{number32}
use Rattle.pg_arguments.specs.declared.hole.Hole.{Hole}
use Rattle.pg_arguments.specs.Types.{TypeParts}
use Rattle.pg_arguments.specs.Encoded.{Encoded, plain, open_oid, moved, joined, counted, AreBetween, AreInside, overwritten, place_at, patched_with, wire, wires, FitsWire}
use Rattle.pg_arguments.proofs.JoinLaws.{place_at_is, between_grows, between_lower, between_room, joined-assoc, moved_same, patched_open}

-- ---- places

place_left : (hs ks : List Hole) (k : ℕ) → k < length hs → place_at (hs ++ ks) k ≡ place_at hs k
place_left [] ks k lt = absurd (omega (arith, lt))
place_left (x ∷ xs) ks zero lt = refl
place_left (x ∷ xs) ks (suc k) lt = place_left xs ks k (omega (arith, lt))

place_right : (hs ks : List Hole) (n j k : ℕ) → k ≡ length hs + j → j < length ks → place_at (hs ++ map (moved n) ks) k ≡ n + place_at ks j
place_right [] [] n j k e lt = absurd (omega (arith, lt))
place_right [] (y ∷ ys) n zero k e lt = let at : k ≡ zero = omega (arith, e) in rw at refl
place_right [] (y ∷ ys) n (suc j) zero e lt = absurd (omega (arith, e))
place_right [] (y ∷ ys) n (suc j) (suc k) e lt = place_right [] ys n j k (omega (arith, e)) (omega (arith, lt))
place_right (x ∷ xs) ks n j zero e lt = absurd (omega (arith, e))
place_right (x ∷ xs) ks n j (suc k) e lt = place_right xs ks n j k (omega (arith, e)) lt

place_inside : (from size : ℕ) (hs : List Hole) (k : ℕ) → k < length hs → AreBetween from size hs → place_at hs k + 4 ≤ size
place_inside from size [] k lt h = absurd (omega (arith, lt))
place_inside from size (x ∷ xs) zero lt h = between_room (x.place + 4) size xs h.1
place_inside from size (x ∷ xs) (suc k) lt h = place_inside (x.place + 4) size xs k (omega (arith, lt)) h.1

pub room_at : (size : ℕ) (hs : List Hole) (k : ℕ) (h : Hole) → k < length hs → h ≡ get_or hs k h → AreBetween 0 size hs → h.place + 4 ≤ size
room_at size hs k h lt e inside = omega (arith, place_at_is hs k h lt e, place_inside 0 size hs k lt inside)

remove_left : {A : Type 0} (xs ys : List A) (k : ℕ) → k < length xs → remove (xs ++ ys) k ≡ remove xs k ++ ys
remove_left [] ys k lt = absurd (omega (arith, lt))
remove_left (x ∷ xs) ys zero lt = refl
remove_left (x ∷ xs) ys (suc k) lt = ap (λ zs. x ∷ zs) (remove_left xs ys k (omega (arith, lt)))

remove_right : {A : Type 0} (xs ys : List A) (j k : ℕ) → k ≡ length xs + j → remove (xs ++ ys) k ≡ xs ++ remove ys j
remove_right [] ys j k e = let at : k ≡ j = omega (arith, e) in rw at refl
remove_right (x ∷ xs) ys j zero e = absurd (omega (arith, e))
remove_right (x ∷ xs) ys j (suc k) e = ap (λ zs. x ∷ zs) (remove_right xs ys j k (omega (arith, e)))

remove_moved : (n : ℕ) (hs : List Hole) (k : ℕ) → k < length hs → remove (map (moved n) hs) k ≡ map (moved n) (remove hs k)
remove_moved n [] k lt = absurd (omega (arith, lt))
remove_moved n (x ∷ xs) zero lt = refl
remove_moved n (x ∷ xs) (suc k) lt = ap (λ zs. moved n x ∷ zs) (remove_moved n xs k (omega (arith, lt)))

pub remove_between : (from size : ℕ) (hs : List Hole) (k : ℕ) → AreBetween from size hs → AreBetween from size (remove hs k)
remove_between from size [] zero h = h
remove_between from size [] (suc k) h = h
remove_between from size (x ∷ xs) zero h = between_lower from (x.place + 4) size xs (omega (arith, h.0)) h.1
remove_between from size (x ∷ xs) (suc k) h = (h.0, remove_between (x.place + 4) size xs k h.1)

-- ---- bytes

drop_left : {A : Type 0} (n : ℕ) (xs ys : List A) → n ≤ length xs → drop n (xs ++ ys) ≡ drop n xs ++ ys
drop_left zero xs ys le = refl
drop_left (suc n) [] ys le = absurd (omega (arith, le))
drop_left (suc n) (x ∷ xs) ys le = drop_left n xs ys (omega (arith, le))

drop_right : {A : Type 0} (xs ys : List A) (n j : ℕ) → n ≡ length xs + j → drop n (xs ++ ys) ≡ drop j ys
drop_right [] ys n j e = let at : n ≡ j = omega (arith, e) in rw at refl
drop_right (x ∷ xs) ys zero j e = absurd (omega (arith, e))
drop_right (x ∷ xs) ys (suc n) j e = drop_right xs ys n j (omega (arith, e))

take_right : {A : Type 0} (xs ys : List A) (n j : ℕ) → n ≡ length xs + j → take n (xs ++ ys) ≡ xs ++ take j ys
take_right [] ys n j e = let at : n ≡ j = omega (arith, e) in rw at refl
take_right (x ∷ xs) ys zero j e = absurd (omega (arith, e))
take_right (x ∷ xs) ys (suc n) j e = ap (λ zs. x ∷ zs) (take_right xs ys n j (omega (arith, e)))

length_drop : {A : Type 0} (n : ℕ) (xs : List A) → n ≤ length xs → length (drop n xs) + n ≡ length xs
length_drop zero xs le = omega arith
length_drop (suc n) [] le = absurd (omega (arith, le))
length_drop (suc n) (x ∷ xs) le = omega (arith, length_drop n xs (omega (arith, le)))

pub overwritten_size : (p : ℕ) (new old : List ℕ) → p + length new ≤ length old → length (overwritten p new old) ≡ length old
overwritten_size p new old le =
    omega (arith, length-append (take p old ++ new) (drop (p + length new) old), length-append (take p old) new, length-take-le p old (omega (arith, le)), length_drop (p + length new) old le)

overwritten_left : (p : ℕ) (new xs ys : List ℕ) → p + length new ≤ length xs → overwritten p new (xs ++ ys) ≡ overwritten p new xs ++ ys
overwritten_left p new xs ys le =
    rw (take-append-le p xs ys (omega (arith, le)), drop_left (p + length new) xs ys le) (sym (append_assoc (take p xs ++ new) (drop (p + length new) xs) ys))

overwritten_right : (p q : ℕ) (new xs ys : List ℕ) → p ≡ length xs + q → overwritten p new (xs ++ ys) ≡ xs ++ overwritten q new ys
overwritten_right p q new xs ys e =
    rw (take_right xs ys p q e, drop_right xs ys (p + length new) (q + length new) (omega (arith, e)))
    (ap (λ (z : List ℕ). z ++ drop (q + length new) ys) (append_assoc xs (take q ys) new) ∙ append_assoc xs (take q ys ++ new) (drop (q + length new) ys))

-- ---- joined values

moved_length : (n : ℕ) (hs : List Hole) → length (map (moved n) hs) ≡ length hs
moved_length n [] = refl
moved_length n (x ∷ xs) = ap suc (moved_length n xs)

pub patched_size : (k : ℕ) (four : List ℕ) (e : Encoded) → length four ≡ 4 → k < length e.holes → AreInside e → length (patched_with k four e).bytes ≡ length e.bytes
patched_size k four e size lt h = overwritten_size (place_at e.holes k) four e.bytes (omega (arith, size, place_inside 0 (length e.bytes) e.holes k lt h))

pub patched_inside : (k : ℕ) (four : List ℕ) (e : Encoded) → length four ≡ 4 → k < length e.holes → AreInside e → AreInside (patched_with k four e)
patched_inside k four e size lt h =
    between_grows 0 (length e.bytes) (length (patched_with k four e).bytes) (remove e.holes k) (omega (arith, patched_size k four e size lt h)) (remove_between 0 (length e.bytes) e.holes k h)

pub patched_left : (k : ℕ) (four : List ℕ) (a b : Encoded) → length four ≡ 4 → k < length a.holes → AreInside a → patched_with k four (joined a b) ≡ joined (patched_with k four a) b
patched_left k four a b size lt h =
    let place = place_left a.holes (map (moved (length a.bytes)) b.holes) k lt in
    let room : place_at a.holes k + length four ≤ length a.bytes = omega (arith, size, place_inside 0 (length a.bytes) a.holes k lt h) in
    let far : map (moved (length a.bytes)) b.holes ≡ map (moved (length (overwritten (place_at a.holes k) four a.bytes))) b.holes = moved_same _ _ b.holes (sym (overwritten_size (place_at a.holes k) four a.bytes room)) in
    rw (place, overwritten_left (place_at a.holes k) four a.bytes b.bytes room, remove_left a.holes (map (moved (length a.bytes)) b.holes) k lt, far) refl

pub patched_right : (k j : ℕ) (four : List ℕ) (a b : Encoded) → k ≡ length a.holes + j → j < length b.holes → patched_with k four (joined a b) ≡ joined a (patched_with j four b)
patched_right k j four a b e lt =
    let place = place_right a.holes b.holes (length a.bytes) j k e lt in
    rw (place, overwritten_right (length a.bytes + place_at b.holes j) (place_at b.holes j) four a.bytes b.bytes refl, remove_right a.holes (map (moved (length a.bytes)) b.holes) j k e, remove_moved (length a.bytes) b.holes j lt) refl

-- ---- values behind their lengths

between_moved : (m n k from to : ℕ) (hs : List Hole) → m + n ≤ k → to ≤ m + from → AreBetween from n hs → AreBetween to k (map (moved m) hs)
between_moved m n k from to [] le at h = omega (arith, h, le, at)
between_moved m n k from to (x ∷ xs) le at h = (omega (arith, h.0, at), between_moved m n k (x.place + 4) (m + x.place + 4) xs le (omega arith) h.1)

inside_wire : (four : List ℕ) (e : Encoded) → AreInside e → AreInside (joined (plain four) e)
inside_wire four e h = between_moved (length four) (length e.bytes) (length (four ++ e.bytes)) 0 0 e.holes (omega (arith, length-append four e.bytes)) (omega arith) h

sized : (k n : ℕ) → (k < n) ⊎ (n ≤ k)
sized k zero = inr (omega arith)
sized zero (suc n) = inl (omega arith)
sized (suc k) (suc n) = elim (sized k n) [ inl lt ↦ inl (omega (arith, lt)) | inr le ↦ inr (omega (arith, le)) ]

abbrev number_of : Encoded → List ℕ
number_of e = number32 (length e.bytes)

patched_wire : (k : ℕ) (four : List ℕ) (e : Encoded) → length four ≡ 4 → k < length e.holes → AreInside e → patched_with k four (wire (Some e)) ≡ wire (Some (patched_with k four e))
patched_wire k four e size lt h =
    ap (counted 1) (patched_right k k four (plain (number_of e)) e (omega arith) lt ∙ ap (λ (n : ℕ). joined (plain (number32 n)) (patched_with k four e)) (sym (patched_size k four e size lt h)))

abbrev Patched : ℕ → List ℕ → List (Option Encoded) → Type 0
Patched k four values = (after : List (Option Encoded)) × (length after ≡ length values) × AllByRecursion FitsWire after × (patched_with k four (wires values) ≡ wires after)

pub patch_values : (four : List ℕ) → length four ≡ 4 → (values : List (Option Encoded)) (k : ℕ) → AllByRecursion FitsWire values → k < length (wires values).holes → Patched k four values
patch_values four size [] k h lt = absurd (omega (arith, lt))
patch_values four size (None ∷ vs) k h lt =
    let below : k < length (wires vs).holes = omega (arith, lt, moved_length 4 (wires vs).holes) in
    let rest = patch_values four size vs k h.1 below in
    (None ∷ rest.0, ap suc rest.1, (tt, rest.2), patched_right k k four (wire None) (wires vs) (omega arith) below ∙ ap (joined (wire None)) rest.3)
patch_values four size (Some e ∷ vs) k h lt =
    let own : length (wire (Some e)).holes ≡ length e.holes = moved_length 4 e.holes in
    elim (sized k (length e.holes)) [
      | inl here ↦ (
        Some (patched_with k four e) ∷ vs,
        refl,
        ((omega (arith, h.0.0, patched_size k four e size here h.0.1), patched_inside k four e size here h.0.1), h.1),
        patched_left k four (wire (Some e)) (wires vs) size (omega (arith, here, own)) (inside_wire (number_of e) e h.0.1) ∙ ap (λ (x : Encoded). joined x (wires vs)) (patched_wire k four e size here h.0.1),
      )
      | inr le ↦
          let j : ℕ = k - length e.holes in
          let all : length (wires (Some e ∷ vs)).holes ≡ length (wire (Some e)).holes + length (wires vs).holes =
          length-append (wire (Some e)).holes (map (moved (length (wire (Some e)).bytes)) (wires vs).holes) ∙ ap (λ (n : ℕ). length (wire (Some e)).holes + n) (moved_length (length (wire (Some e)).bytes) (wires vs).holes) in
          let below : j < length (wires vs).holes = omega (arith, lt, le, own, all) in
          let rest = patch_values four size vs j h.1 below in
          (Some e ∷ rest.0, ap suc rest.1, (h.0, rest.2), patched_right k j four (wire (Some e)) (wires vs) (omega (arith, le, own)) below ∙ ap (joined (wire (Some e))) rest.3)
    ]

-- ---- as if the OID had been known at first

regroup : (p front mid back rest : Encoded) → joined (joined p (joined (joined front mid) back)) rest ≡ joined (joined (joined p front) mid) (joined back rest)
regroup p front mid back rest =
    ap (λ (x : Encoded). joined x rest) (sym (joined-assoc p (joined front mid) back) ∙ ap (λ (x : Encoded). joined x back) (sym (joined-assoc p front mid)))
    ∙ joined-assoc (joined (joined p front) mid) back rest

same_size : (front back : Encoded) (of : TypeParts) (four : List ℕ) → length four ≡ 4
    → length (joined (joined front (open_oid of)) back).bytes ≡ length (joined (joined front (plain four)) back).bytes
same_size front back of four size =
    omega (arith, size, length-append (front.bytes ++ 0 ∷ 0 ∷ 0 ∷ 0 ∷ []) back.bytes, length-append front.bytes (0 ∷ 0 ∷ 0 ∷ 0 ∷ []), length-append (front.bytes ++ four) back.bytes, length-append front.bytes four)

known_here : (front back rest : Encoded) (of : TypeParts) (four : List ℕ) (k : ℕ) → length four ≡ 4 → length front.holes ≡ k
    → patched_with k four (joined (wire (Some (joined (joined front (open_oid of)) back))) rest) ≡ joined (wire (Some (joined (joined front (plain four)) back))) rest
known_here front back rest of four k size at =
    let p : Encoded = plain (number_of (joined (joined front (open_oid of)) back)) in
    ap (counted (1 + rest.values)) (
    ap (patched_with k four) (regroup p front (open_oid of) back rest)
    ∙ patched_open (joined p front) (joined back rest) of four k size (moved_length 4 front.holes ∙ at)
    ∙ sym (regroup p front (plain four) back rest)
    ∙ ap (λ (n : ℕ). joined (joined (plain (number32 n)) (joined (joined front (plain four)) back)) rest) (same_size front back of four size)
    )

holes_behind : (xs ys : List (Option Encoded)) → length (wires (xs ++ ys)).holes ≡ length (wires xs).holes + length (wires ys).holes
holes_behind [] ys = omega arith
holes_behind (x ∷ xs) ys =
    omega (
      arith,
      holes_behind xs ys,
      length-append (wire x).holes (map (moved (length (wire x).bytes)) (wires (xs ++ ys)).holes),
      moved_length (length (wire x).bytes) (wires (xs ++ ys)).holes,
      length-append (wire x).holes (map (moved (length (wire x).bytes)) (wires xs).holes),
      moved_length (length (wire x).bytes) (wires xs).holes,
    )

open_behind : (front back : Encoded) (of : TypeParts) (after : List (Option Encoded)) → length front.holes < length (wires (Some (joined (joined front (open_oid of)) back) ∷ after)).holes
open_behind front back of after =
    let x : Encoded = joined (joined front (open_oid of)) back in
    omega (
      arith,
      length-append (wire (Some x)).holes (map (moved (length (wire (Some x)).bytes)) (wires after).holes),
      moved_length 4 x.holes,
      length-append (front.holes ++ map (moved (length front.bytes)) (open_oid of).holes) (map (moved (length (joined front (open_oid of)).bytes)) back.holes),
      length-append front.holes (map (moved (length front.bytes)) (open_oid of).holes),
    )

fits_known : (front back : Encoded) (of : TypeParts) (four : List ℕ) → length four ≡ 4 → FitsWire (Some (joined (joined front (open_oid of)) back)) → FitsWire (Some (joined (joined front (plain four)) back))
fits_known front back of four size h =
    let x : Encoded = joined (joined front (open_oid of)) back in
    let lt : length front.holes < length x.holes = omega (arith, length-append (front.holes ++ map (moved (length front.bytes)) (open_oid of).holes) (map (moved (length (joined front (open_oid of)).bytes)) back.holes), length-append front.holes (map (moved (length front.bytes)) (open_oid of).holes)) in
    (omega (arith, h.0, same_size front back of four size), subst AreInside (patched_open front back of four (length front.holes) size refl) (patched_inside (length front.holes) four x size lt h.1))

pub known_there : (four : List ℕ) → length four ≡ 4 → (before after : List (Option Encoded)) (front back : Encoded) (of : TypeParts) (k : ℕ) → length (wires before).holes + length front.holes ≡ k
    → patched_with k four (wires (before ++ Some (joined (joined front (open_oid of)) back) ∷ after)) ≡ wires (before ++ Some (joined (joined front (plain four)) back) ∷ after)
known_there four size [] after front back of k at = known_here front back (wires after) of four k size (omega (arith, at))
known_there four size (x ∷ xs) after front back of k at =
    let own : length (wires (x ∷ xs)).holes ≡ length (wire x).holes + length (wires xs).holes =
    length-append (wire x).holes (map (moved (length (wire x).bytes)) (wires xs).holes) ∙ ap (λ (n : ℕ). length (wire x).holes + n) (moved_length (length (wire x).bytes) (wires xs).holes) in
    let j : ℕ = length (wires xs).holes + length front.holes in
    let rest : List (Option Encoded) = Some (joined (joined front (open_oid of)) back) ∷ after in
    patched_right k j four (wire x) (wires (xs ++ rest)) (omega (arith, at, own)) (omega (arith, holes_behind xs rest, open_behind front back of after))
    ∙ ap (joined (wire x)) (known_there four size xs after front back of j refl)

pub fits_there : (four : List ℕ) → length four ≡ 4 → (before after : List (Option Encoded)) (front back : Encoded) (of : TypeParts)
    → AllByRecursion FitsWire (before ++ Some (joined (joined front (open_oid of)) back) ∷ after) → AllByRecursion FitsWire (before ++ Some (joined (joined front (plain four)) back) ∷ after)
fits_there four size [] after front back of h = (fits_known front back of four size h.0, h.1)
fits_there four size (x ∷ xs) after front back of h = (h.0, fits_there four size xs after front back of h.1)

pub as_long : {A : Type 0} (before after : List A) (x y : A) → length (before ++ x ∷ after) ≡ length (before ++ y ∷ after)
as_long before after x y = omega (arith, length-append before (x ∷ after), length-append before (y ∷ after))
