-- What a test says that was passed or not.
use Rattle.std.proofs.Common.{◌≡◌, Bool, true, false, cond, ◌&&◌, ◌||◌, not, ◌⊎◌, inl, inr, Option, Some, None, Result, Ok, Err, IfOk, refl, sym, ◌∙◌}
use Rattle.std.proofs.lemmas.Option.{same_Some}

pub both_true : (a b : Bool) → (a && b) ≡ true → (a ≡ true) × (b ≡ true)
both_true true b e = (refl, e)
both_true false b e = absurd cc

pub neither_true : (a b : Bool) → (a || b) ≡ false → (a ≡ false) × (b ≡ false)
neither_true true b e = absurd cc
neither_true false b e = (refl, e)

pub not_true : (b : Bool) → (b ≡ true → ⊥) → b ≡ false
not_true true never = absurd (never refl)
not_true false never = refl

pub negated : (b : Bool) → not b ≡ true → b ≡ false
negated true e = absurd cc
negated false e = refl

-- the one or the other of two values
pub chosen : {A : Type 0} (b : Bool) (x y z : A) → cond b x y ≡ z → ((b ≡ true) × (x ≡ z)) ⊎ ((b ≡ false) × (y ≡ z))
chosen true x y z e = inl (refl, e)
chosen false x y z e = inr (refl, e)

pub guarded : {A : Type 0} (t : Bool) (x : Option A) (y : A) → cond t x None ≡ Some y → (t ≡ true) × (x ≡ Some y)
guarded true x y e = (refl, e)
guarded false x y e = absurd cc

-- the one or the other of two statements
pub of_two : (b : Bool) (A B D : Type 0) → (A → D) → (B → D) → cond b A B → D
of_two true A B D a c h = a h
of_two false A B D a c h = c h

pub of_three : (over skip : Bool) (A B C D : Type 0) → (A → D) → (B → D) → (C → D) → cond over A (cond skip B C) → D
of_three true skip A B C D a b c h = a h
of_three false true A B C D a b c h = b h
of_three false false A B C D a b c h = c h

pub where_neither : (over skip : Bool) (A B : Type 0) → over ≡ false → skip ≡ false → cond (over || skip) A B → B
where_neither true skip A B e k h = absurd cc
where_neither false true A B e k h = absurd cc
where_neither false false A B e k h = h

-- an option has one value
pub same_found : {A : Type 0} (o : Option A) (x y : A) → o ≡ Some x → o ≡ Some y → x ≡ y
same_found o x y e f = same_Some x y (sym e ∙ f)

pub if_ok : {X E : Type 0} {P Q : X → Type 0} (r : Result X E) → ((x : X) → P x → Q x) → IfOk r P → IfOk r Q
if_ok (Ok x) f h = f x h
if_ok (Err e) f h = h
