-- What stays of a listener where something is done with the connection that is held.
use Rattle.std.proofs.Common.{◌≡◌, ◌∙◌, ℕ, Bool, true, false, List, ap, refl, Option, Some, None, IsSome, option_map, Result, Ok, Err}
use Rattle.futures.specs.declared.task.Poll.{Poll}
use Rattle.futures.specs.declared.task.Poll.TheVariants.{Ready, Pending}
use Rattle.pg_wire.specs.declared.error.Error.{Error}
use Rattle.pg_listening.specs.Listening.{StaysHeld, behind_after, channels_behind}
use Rattle.pg_conn.specs.Connections.{ConnOf}
use Rattle.pg_listen.specs.Handed.{HeldOf}
use Rattle.pg_listening.specs.Leaving.{HeldIs}

module _ {C A : Type 0} (conn : C → ConnOf A) (with_conn : C → ConnOf A → C) where
  pub stays_some : (o n : Option C) → StaysHeld conn with_conn o n → IsSome o → IsSome n
  stays_some None n s i = absurd cc
  stays_some (Some c) None s i = absurd s
  stays_some (Some c) (Some d) s i = refl

module _ {C A : Type 0} (handed : C → HeldOf A) (conn : C → ConnOf A) (with_conn : C → ConnOf A → C) where
  -- it is of the pool that it was of
  pub stays_named : ((c : C) (w : ConnOf A) → handed (with_conn c w) ≡ record (handed c) { conn = w }) → (name : ℕ) (o n : Option C) → StaysHeld conn with_conn o n → HeldIs handed name o → HeldIs handed name n
  stays_named handed_with name None None s h = tt
  stays_named handed_with name None (Some d) s h = absurd s
  stays_named handed_with name (Some c) None s h = absurd s
  stays_named handed_with name (Some c) (Some d) s h = ap (λ (x : C). (handed x).name) s ∙ ap (λ (x : HeldOf A). x.name) (handed_with c (conn d)) ∙ h

module _ {C A : Type 0} (handed : C → HeldOf A) where
  -- where none is held
  pub none_named : (name : ℕ) (o : Option C) → o ≡ None → HeldIs handed name o
  none_named name None e = tt
  none_named name (Some c) e = absurd cc

  -- and where one is
  pub held_named : (name : ℕ) (o : Option C) (c : C) → o ≡ Some c → HeldIs handed name o → (handed c).name ≡ name
  held_named name None c e h = absurd cc
  held_named name (Some d) c e h =
      let same : c ≡ d = cc in
      ap (λ (x : C). (handed x).name) same ∙ h

-- what says that it is there refutes that it is gone
pub not_gone : {C P : Type 0} (o : Option C) → IsSome o → o ≡ None → P
not_gone None s e = absurd cc
not_gone (Some c) s e = absurd cc

-- what is told of it is told where it is there
pub not_mapped : {X Y P : Type 0} (f : X → Y) (o : Option X) → IsSome o → option_map f o ≡ None → P
not_mapped f None s e = absurd cc
not_mapped f (Some x) s e = absurd cc

pub some_mapped : {X Y : Type 0} (f : X → Y) (o : Option X) (y : Y) → option_map f o ≡ Some y → (x : X) × (o ≡ Some x) × (y ≡ f x)
some_mapped f None y e = absurd cc
some_mapped f (Some x) y e = (x, refl, cc)

-- where none is held no channel is listened to
pub not_ready : {C : Type 0} (b : Bool) (o : Option C) → (b ≡ true → IsSome o) → o ≡ None → b ≡ false
not_ready false o held e = refl
not_ready true o held e = not_gone o (held refl) e

pub never : {P : Type 0} → false ≡ true → P
never e = absurd cc

-- a statement that makes no change of the channels leaves them
pub channels_stay : (answer : Poll (Result (Unit {0}) Error)) (behind : Option (List (List ℕ))) (channels : List (List ℕ)) → behind ≡ None → channels_behind answer behind channels ≡ channels
channels_stay Pending behind channels e = refl
channels_stay (Ready (Err _)) behind channels e = refl
channels_stay (Ready (Ok u)) None channels e = refl
channels_stay (Ready (Ok u)) (Some next) channels e = absurd cc

pub none_behind : (answer : Poll (Result (Unit {0}) Error)) (behind : Option (List (List ℕ))) → behind ≡ None → behind_after answer behind ≡ None
none_behind Pending behind e = e
none_behind (Ready (Err _)) behind e = e
none_behind (Ready (Ok u)) behind e = refl
