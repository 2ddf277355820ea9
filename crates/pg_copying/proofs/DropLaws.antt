-- What the drop of a copy leaves of its connection.
use Rattle.std.proofs.Common.{◌≡◌, ℕ, Bool, true, false, cond, not, ◌&&◌, nat_eq, leb, le-leb, [], ◌∷◌, ◌++◌, length, refl, ap, arith}
use Rattle.pg_stream.specs.Streams.{StreamOf}
use Rattle.pg_call.specs.declared.calling.Call.{Call}
use Rattle.pg_call.specs.declared.calling.Call.TheVariants as calls
use Rattle.pg_call.specs.declared.kind.Change.{Change}
use Rattle.pg_call.specs.declared.kind.Change.TheVariants as changes
use Rattle.pg_call.specs.Hearing.{IsOpen}
use Rattle.pg_call.specs.Requests.{copy_fail, spelled}
use Rattle.pg_conn.specs.Connections.{ConnOf, begins_copy, cleaned, copies, has_fed, is_fed, left, may_open, opens, owned, restated, runs, with_copy_fail}
use Rattle.pg_conn.specs.Feeding.{IsFed}
use Rattle.pg_conn.specs.Statements.{moved, step_of, unmoved}
use Rattle.pg_conn.specs.Turns.{level_of, wants_level}

-- ---- what a cleanup does besides

restated_stream : {A : Type 0} (c : ConnOf A) → (restated c).stream ≡ c.stream
restated_stream {A} c = by (nat_eq c.groups 0)
  where
    by : (b : Bool) → (cond b (record c { rule = unmoved c.keeping c.rule }) (record c { rule = moved c.keeping c.rule; cache = step_of c.keeping c.cache })).stream ≡ c.stream
    by true = refl
    by false = refl

opens_none : (groups depth : ℕ) (change : Change) → opens change ≡ false → may_open change groups depth ≡ false
opens_none groups depth change e = by (not (nat_eq groups 0)) (nat_eq depth 0) (opens change) e
  where
    by : (g d o : Bool) → o ≡ false → g && (d && o) ≡ false
    by true true o e = e
    by true false o e = refl
    by false d o e = refl

cleaned_stream : {A : Type 0} (c : ConnOf A) → opens c.change ≡ false → (cleaned c).stream ≡ c.stream
cleaned_stream c e = rw (opens_none c.groups c.rule.depth c.change e) (restated_stream c)

-- ---- a copy that is open

level_is : (change : Change) (groups : ℕ) → copies change groups ≡ true → level_of change groups ≡ 64
level_is change groups e = by (nat_eq groups 0) change e
  where
    by : (g : Bool) (c : Change) → not g && begins_copy c ≡ true → ◌≡◌ {A = ℕ} (cond g 0 (cond (wants_level c) 64 0)) 64
    by false changes.Copies e = refl
    by false changes.Stays e = absurd cc
    by false changes.Opens e = absurd cc
    by false changes.Closes e = absurd cc
    by false changes.Fed e = absurd cc
    by true c e = absurd cc

open_runs : (call : Call) → IsOpen call → runs call ≡ true
open_runs (calls.Own reply) o = refl
open_runs calls.Idle o = absurd o
open_runs (calls.Asked request) o = absurd o
open_runs (calls.Waiting waiting) o = absurd o
open_runs calls.Closing o = absurd o

-- it is failed, once, out of the room that is kept for that
pub fails_once : {A : Type 0} (c : ConnOf A) → IsFed c → copies c.change c.groups ≡ true → (left c).stream.unsent ≡ c.stream.unsent ++ spelled (copy_fail ∷ [])
fails_once {A} c f k =
    let room = f.0.7 in
    let fits : leb (length (spelled (copy_fail ∷ []))) c.stream.spare ≡ true = le-leb _ _ (omega (arith, level_is c.change c.groups k, room)) in
    rw (open_runs c.call f.1, k, fits) (ap (λ (s : StreamOf A). s.unsent) (cleaned_stream (with_copy_fail c) refl))

-- ---- one whose data is ended

fed_opens_none : (groups : ℕ) (change : Change) → has_fed change groups ≡ true → (copies change groups ≡ false) × (opens change ≡ false)
fed_opens_none groups change e = by (not (nat_eq groups 0)) change e
  where
    by : (g : Bool) (c : Change) → g && is_fed c ≡ true → (g && begins_copy c ≡ false) × (opens c ≡ false)
    by true changes.Fed e = (refl, refl)
    by true changes.Stays e = absurd cc
    by true changes.Opens e = absurd cc
    by true changes.Closes e = absurd cc
    by true changes.Copies e = absurd cc
    by false c e = absurd cc

-- nothing is queued
pub fails_no_more : {A : Type 0} (c : ConnOf A) → runs c.call ≡ true → has_fed c.change c.groups ≡ true → (left c).stream ≡ c.stream
fails_no_more c r f =
    let none = fed_opens_none c.groups c.change f in
    rw (r, none.0) (cleaned_stream (owned c) none.1)
