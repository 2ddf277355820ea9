-- A script, read line by line.
use Rattle.std.specs.Prelude.{Bool, true, false, ◌≡◌, ◌+◌, ◌∷◌, ◌++◌, [], List, ℕ, Option, Some, None, Result, Ok, Err, nat_eq, nat_lt, length, unwrap_or, if◌then◌else◌}
use Rattle.pg_stream.specs.declared.events.ReadEvent.{ReadEvent}
use Rattle.pg_stream.specs.declared.events.ReadEvent.TheVariants as reads
use Rattle.pg_stream.specs.declared.events.WriteEvent.{WriteEvent}
use Rattle.pg_stream.specs.declared.events.WriteEvent.TheVariants as writes
use Rattle.pg_script.specs.declared.step.Step.{Step}
use Rattle.pg_script.specs.declared.line.Line.{Line}
use Rattle.pg_script.specs.declared.line.Line.TheVariants as lines
use Rattle.pg_script.specs.declared.kind.Kind.{Kind}
use Rattle.pg_script.specs.declared.kind.Kind.TheVariants as kinds
use Rattle.pg_script.specs.declared.script.Script.{Script}
use Rattle.pg_script.specs.declared.live.LiveScript.{LiveScript}
use Rattle.pg_script.specs.declared.error.ReadError.{ReadError}
use Rattle.pg_script.specs.declared.error.ReadError.TheVariants as errors
use Rattle.pg_script.specs.Reading.{◌>>=◌}
use Rattle.pg_script.specs.Lines.{line_in}

abbrev pub empty_script : Script
empty_script = record {
  user = None;
  password = None;
  database = None;
  application = None;
  options = [];
  ssl_mode = None;
  cache = None;
  digits = None;
  can_upgrade = false;
  is_local = false;
  nonce = None;
  start_polls = None;
  events = [];
  writes = [];
  steps = [];
}

abbrev pub with_event : Script → ReadEvent → Option Script
with_event s e = Some (record s { events = s.events ++ e ∷ [] })

abbrev pub with_write : Script → WriteEvent → Option Script
with_write s e = Some (record s { writes = s.writes ++ e ∷ [] })

abbrev pub with_step : Script → Step → Option Script
with_step s step = Some (record s { steps = s.steps ++ step ∷ [] })

abbrev pub with_option : Script → List ℕ → List ℕ → Option Script
with_option s name value = Some (record s { options = s.options ++ (name, value) ∷ [] })

-- what is set where nothing had set it
abbrev pub set_once : {A : Type 0} → Option A → A → Option (Option A)
set_once None value = Some (Some value)
set_once (Some _) value = None

-- one line more; a step ends after so many items only where it says so
abbrev pub add : Script → Line → Option Script
add s lines.Blank = Some s
add s (lines.User name) = set_once s.user name >>= λ user. Some (record s { user = user })
add s (lines.Password text) = set_once s.password text >>= λ password. Some (record s { password = password })
add s (lines.Database name) = set_once s.database name >>= λ database. Some (record s { database = database })
add s (lines.Application name) = set_once s.application name >>= λ application. Some (record s { application = application })
add s (lines.Option name value) = with_option s name value
add s (lines.SslMode mode) = set_once s.ssl_mode mode >>= λ ssl_mode. Some (record s { ssl_mode = ssl_mode })
add s (lines.Cache capacity) = set_once s.cache capacity >>= λ cache. Some (record s { cache = cache })
add s (lines.Digits digits) = set_once s.digits digits >>= λ digits. Some (record s { digits = digits })
add s lines.LinkUpgrade = Some (record s { can_upgrade = true })
add s lines.LinkLocal = Some (record s { is_local = true })
add s (lines.Nonce bytes) = set_once s.nonce bytes >>= λ nonce. Some (record s { nonce = nonce })
add s (lines.Server bytes) = with_event s (reads.Piece bytes)
add s lines.Wait = with_event s reads.Wait
add s lines.End = with_event s reads.End
add s lines.Fail = with_event s reads.Fail
add s (lines.Take bytes times) = with_write s (writes.Take bytes times)
add s lines.Hold = with_write s writes.Wait
add s lines.Break = with_write s writes.Fail
add s (lines.Start polls) = set_once s.start_polls polls >>= λ start_polls. Some (record s { start_polls = start_polls })
add s (lines.Step polls most call) = with_step s (record { call = call; polls = polls; most = unwrap_or most 4294967295 })

-- the lines that a script of this kind may have
abbrev pub allows : Kind → Line → Bool
allows kinds.Memory l = true
allows kinds.Live lines.Blank = true
allows kinds.Live (lines.Start polls) = true
allows kinds.Live (lines.Step polls most call) = true
allows kinds.Live _ = false

abbrev pub add_allowed : Kind → Script → Line → Option Script
add_allowed kind s l = if allows kind l then add s l else None

unfoldable pub add_line : Kind → Script → List ℕ → Option Script
add_line kind s line = line_in line >>= add_allowed kind s

-- the bytes between line feeds
abbrev pub onto_first : ℕ → List (List ℕ) → List (List ℕ)
onto_first b [] = (b ∷ []) ∷ []
onto_first b (l ∷ ls) = (b ∷ l) ∷ ls

abbrev pub lines_of : List ℕ → List (List ℕ)
lines_of [] = [] ∷ []
lines_of (b ∷ bs) = if nat_eq b 10 then [] ∷ lines_of bs else onto_first b (lines_of bs)

-- behind the end of a line
abbrev pub lines_behind : List ℕ → List (List ℕ)
lines_behind [] = []
lines_behind (b ∷ bs) = lines_of bs

-- the lines one after the other, the first behind so many others; or the first bad one
abbrev pub read_next : ℕ → Option Script → (Script → Result Script ℕ) → Result Script ℕ
read_next n None rest = Err (n + 1)
read_next n (Some s) rest = rest s

unfoldable pub read_from : Kind → ℕ → Script → List (List ℕ) → Result Script ℕ
read_from kind n s [] = Ok s
read_from kind n s (l ∷ ls) = read_next n (add_line kind s l) (λ t. read_from kind (n + 1) t ls)

-- the script, or 0 for a text that is too long, or its first bad line
abbrev pub read_text : Kind → List ℕ → Result Script ℕ
read_text kind text = if nat_lt 67108864 (length text) then Err 0 else read_from kind 0 empty_script (lines_of text)

abbrev pub FailsAt : ReadError → Result Script ℕ → Type 0
FailsAt (errors.BadLine n) read = read ≡ Err n
FailsAt errors.OutOfMemory read = Unit {0}

-- what a text gives, unless memory ran out
abbrev pub ReadsAs : Result Script ReadError → Result Script ℕ → Type 0
ReadsAs (Ok s) read = read ≡ Ok s
ReadsAs (Err e) read = FailsAt e read

-- the script of a live run, as a script that says nothing else
abbrev pub whole : LiveScript → Script
whole l = record empty_script { start_polls = l.start_polls; steps = l.steps }

abbrev pub live_part : Script → LiveScript
live_part s = record { start_polls = s.start_polls; steps = s.steps }

abbrev pub as_script : Result LiveScript ReadError → Result Script ReadError
as_script (Ok l) = Ok (whole l)
as_script (Err e) = Err e
