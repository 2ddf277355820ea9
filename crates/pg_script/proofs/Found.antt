-- Values that are found.
use Rattle.std.proofs.Common.{◌≡◌, ℕ, List, Option, Some, None, Bool, true, false, cond, refl}
use Rattle.pg_script.specs.Reading.{◌>>=◌}

pub bind_some : {A B : Type 0} (o : Option A) (f : A → Option B) (y : B) → (o >>= f) ≡ Some y → (x : A) × (o ≡ Some x) × (f x ≡ Some y)
bind_some (Some x) f y e = (x, refl, e)
bind_some None f y e = absurd cc

pub utf8_takes : (utf8 : Bool) (s t : List ℕ) → cond utf8 (Some s) None ≡ Some t → (utf8 ≡ true) × (s ≡ t)
utf8_takes true s t e = (refl, cc)
utf8_takes false s t e = absurd cc
