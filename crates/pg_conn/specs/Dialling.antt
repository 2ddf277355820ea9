-- How a start-up is begun over a dial: a link, a nonce, and what comes where one of them fails.
use Rattle.std.specs.Prelude.{◌≡◌, ◌⊎◌, ℕ, List, length, Result, Ok, Err}
use Rattle.pg_wire.specs.declared.error.Error.{Error}
use Rattle.pg_wire.specs.declared.error.Error.TheVariants as errors
use Rattle.pg_wire.specs.declared.error.IoCause.TheVariants as causes
use Rattle.pg_options.specs.Options.{ConnectOptions}
use Rattle.pg_stream.specs.Links.{LinkSeen}
use Rattle.pg_auth.specs.Nonce.{nonce_of}
use Rattle.pg_startup.specs.Establishing.{Begins, RefusesStart}
use Rattle.pg_conn.specs.Connecting.{ConnectingOf}
use Rattle.pg_conn.specs.declared.dial.DialFailed.{DialFailed}
use Rattle.pg_conn.specs.declared.dial.DialFailed.TheVariants as failed
use Rattle.pg_conn.specs.Dials.{DialSeen, IsUncalled, one_more}

-- What a dial hands out from one of its states to another: for these options this link, and then these words.
abbrev pub Handing : Type 0 → Type 0 → Type 1
Handing D A = D → D → ConnectOptions → A → List ℕ → Type 0

-- A link was dialled, a nonce of 128 words was drawn, and a start-up was begun over them.
pub record Begun {D A : Type 0} (seen : A → LinkSeen) (hands : Handing D A) (o : ConnectOptions) (d e : D) (first : ConnectingOf A) : Type 0 where
  pub link : A
  pub words : List ℕ
  pub many : length words ≡ 128
  pub handed : hands d e o link words
  pub uncalled : IsUncalled (seen link)
  pub begins : Begins o (nonce_of words) (seen link).plan link first.startup
  pub capacity : first.capacity ≡ o.statement_cache_capacity

-- ---- why there is none

abbrev pub dial_error : DialFailed → Error
dial_error failed.Fault = errors.Io causes.Fault
dial_error failed.OutOfMemory = errors.OutOfMemory

-- words were drawn: no link was dialled, and a fault is counted where there is none
abbrev pub DrawsWords : {X : Type 0} → DialSeen → DialSeen → Result X DialFailed → Type 0
DrawsWords a b (Ok x) = (b.links ≡ a.links) × (b.faults ≡ a.faults)
DrawsWords a b (Err failed.Fault) = (b.links ≡ a.links) × (b.faults ≡ one_more a.faults)
DrawsWords a b (Err failed.OutOfMemory) = Unit {0}

-- the dial counted a fault, or memory was refused to it
abbrev pub FailsDial : DialSeen → DialSeen → Error → Type 0
FailsDial a b (errors.Io causes.Fault) = b.faults ≡ one_more a.faults
FailsDial a b errors.OutOfMemory = Unit {0}
FailsDial a b _ = ⊥

-- the options are refused before the link is touched
pub record RefusesOptions {D A : Type 0} (seen : A → LinkSeen) (hands : Handing D A) (o : ConnectOptions) (d e : D) (error : Error) : Type 0 where
  pub link : A
  pub words : List ℕ
  pub many : length words ≡ 128
  pub handed : hands d e o link words
  pub refuses : RefusesStart o (seen link).plan error

abbrev pub FailsToBegin : {D A : Type 0} → (A → LinkSeen) → Handing D A → (D → DialSeen) → ConnectOptions → D → D → Error → Type 0
FailsToBegin seen hands counts o d e error = FailsDial (counts d) (counts e) error ⊎ RefusesOptions seen hands o d e error
