-- Lists cut behind some of their elements, piece by piece.
use Rattle.std.proofs.Common.{◌≡◌, Bool, true, false, cond, not, List, [], ◌∷◌, ◌++◌, refl, ap, ◌∙◌, flat_map}
use Rattle.std.specs.List.{AllByRecursion}
use Rattle.std.proofs.lemmas.List.Elements.{filter-append}
use Rattle.pg_wire.specs.Frame.{Frame}
use Rattle.pg_wire.specs.Parts.{heard, is_asynchronous, onto_first, cut_after}

-- the pieces, joined, are the list
flat_onto_first : {X : Type 0} (x : X) (xss : List (List X)) → flat_map (λ xs. xs) (onto_first x xss) ≡ x ∷ flat_map (λ xs. xs) xss
flat_onto_first x [] = refl
flat_onto_first x (xs ∷ xss) = refl

flat_cut_one : {X : Type 0} (b : Bool) (x : X) (xss : List (List X)) → flat_map (λ xs. xs) (cond b ((x ∷ []) ∷ xss) (onto_first x xss)) ≡ x ∷ flat_map (λ xs. xs) xss
flat_cut_one true x xss = refl
flat_cut_one false x xss = flat_onto_first x xss

pub flat_cut_after : {X : Type 0} (ends : X → Bool) (xs : List X) → flat_map (λ p. p) (cut_after ends xs) ≡ xs
flat_cut_after ends [] = refl
flat_cut_after ends (x ∷ xs) = flat_cut_one (ends x) x (cut_after ends xs) ∙ ap (λ (t : List _). x ∷ t) (flat_cut_after ends xs)

-- ---- over append

abbrev IsNonEmpty : {X : Type 0} → List X → Type 0
IsNonEmpty [] = ⊥
IsNonEmpty (x ∷ xs) = Unit {0}

some_onto_first : {X : Type 0} (x : X) (xss : List (List X)) → IsNonEmpty (onto_first x xss)
some_onto_first x [] = tt
some_onto_first x (xs ∷ xss) = tt

some_cut_one : {X : Type 0} (b : Bool) (x : X) (xss : List (List X)) → IsNonEmpty (cond b ((x ∷ []) ∷ xss) (onto_first x xss))
some_cut_one true x xss = tt
some_cut_one false x xss = some_onto_first x xss

some_cut : {X : Type 0} (ends : X → Bool) (xs : List X) (x : X) → IsNonEmpty (cut_after ends (xs ++ x ∷ []))
some_cut ends [] x = some_cut_one (ends x) x []
some_cut ends (y ∷ ys) x = some_cut_one (ends y) y (cut_after ends (ys ++ x ∷ []))

onto_first-append : {X : Type 0} (x : X) (xss yss : List (List X)) → IsNonEmpty xss → onto_first x (xss ++ yss) ≡ onto_first x xss ++ yss
onto_first-append x [] yss h = absurd h
onto_first-append x (xs ∷ xss) yss h = refl

cut_one-append : {X : Type 0} (b : Bool) (x : X) (xss yss : List (List X)) → IsNonEmpty xss → cond b ((x ∷ []) ∷ (xss ++ yss)) (onto_first x (xss ++ yss)) ≡ cond b ((x ∷ []) ∷ xss) (onto_first x xss) ++ yss
cut_one-append true x xss yss h = refl
cut_one-append false x xss yss h = onto_first-append x xss yss h

-- behind an element that passes, the pieces of what follows
pub cut_after-append : {X : Type 0} (ends : X → Bool) (xs : List X) (x : X) (ys : List X) → ends x ≡ true → cut_after ends (xs ++ x ∷ ys) ≡ cut_after ends (xs ++ x ∷ []) ++ cut_after ends ys
cut_after-append ends [] x ys h = rw h refl
cut_after-append ends (z ∷ zs) x ys h =
    ap (λ (t : List (List _)). cond (ends z) ((z ∷ []) ∷ t) (onto_first z t)) (cut_after-append ends zs x ys h)
    ∙ cut_one-append (ends z) z (cut_after ends (zs ++ x ∷ [])) (cut_after ends ys) (some_cut ends zs x)

abbrev pub NonePasses : {X : Type 0} → (X → Bool) → List X → Type 0
NonePasses ends xs = AllByRecursion (λ x. ends x ≡ false) xs

-- elements that don't pass are one open piece, and with one that passes behind them one whole piece
pub open_piece : {X : Type 0} (ends : X → Bool) (x : X) (xs : List X) → NonePasses ends (x ∷ xs) → cut_after ends (x ∷ xs) ≡ (x ∷ xs) ∷ []
open_piece ends x [] h = let e = h.0 in rw e refl
open_piece ends x (y ∷ ys) h = let e = h.0 in rw (e, open_piece ends y ys h.1) refl

pub closed_piece : {X : Type 0} (ends : X → Bool) (xs : List X) (x : X) → NonePasses ends xs → ends x ≡ true → cut_after ends (xs ++ x ∷ []) ≡ (xs ++ x ∷ []) ∷ []
closed_piece ends [] x h e = rw e refl
closed_piece ends (y ∷ ys) x h e = let d = h.0 in rw (d, closed_piece ends ys x h.1 e) refl

-- ---- heard over append

pub heard-append : (xs ys : List Frame) → heard (xs ++ ys) ≡ heard xs ++ heard ys
heard-append xs ys = filter-append (λ m. not (is_asynchronous m)) xs ys
