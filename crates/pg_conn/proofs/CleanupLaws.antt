-- What the end of a call, a drop and a rollback make of the room for cleanups.
use Rattle.std.proofs.Common.{◌≡◌, ℕ, zero, suc, ◌+◌, ◌-◌, ◌*◌, ◌^◌, ◌<◌, ◌≤◌, Bool, true, false, ◌&&◌, not, nat_eq, leb, ltb, min, cond, List, [], ◌∷◌, ◌++◌, length, codes, decimal, length-append, Ok, Err, refl, sym, ap, ap₂, ◌∙◌, subst, arith, ◌||◌}
use Rattle.std.proofs.lemmas.Bool.{leb-true, le-leb, ltb-true, lt-ltb}
use Rattle.std.proofs.lemmas.Fmt.{length-decimal-le}
use Rattle.pg_wire.proofs.Tests.{both_true}
use Rattle.pg_stream.specs.Links.{LinkSeen}
use Rattle.pg_stream.specs.Streams.{Moves, StreamSeen}
use Rattle.pg_stream.proofs.StreamLemmas.{cleans}
use Rattle.pg_request.specs.Texts.{savepoint, rollback_text}
use Rattle.pg_call.specs.declared.calling.Beat.{Beat}
use Rattle.pg_call.specs.declared.calling.Beat.TheVariants as beats
use Rattle.pg_call.specs.declared.kind.Change.{Change}
use Rattle.pg_call.specs.declared.kind.Change.TheVariants as changes
use Rattle.pg_call.specs.declared.request.Request.{Request}
use Rattle.pg_call.specs.Requests.{spelled, copy_fail}
use Rattle.pg_rule.specs.declared.rule.Rule.{Rule}
use Rattle.pg_conn.specs.Connections.{ConnOf, ConnSeen, with_depth, begins_copy, copies, ends_copy, has_fed, is_fed, owned, unfed, with_copy_fail, cleaned, counted_anew, depth_behind, ended, fresh_connection, has_room_for, idle, left, may_open, opens, queued_group, resolved, resolved_by, restated, rollback, rolled, rolled_back, runs, settled, started_call, with_group}
use Rattle.pg_call.specs.declared.calling.Call.{Call}
use Rattle.pg_call.specs.declared.calling.Call.TheVariants as calls
use Rattle.pg_call.specs.declared.ledger.Ledger.{Ledger}
use Rattle.pg_conn.specs.Statements.{moved, unmoved, step_of}
use Rattle.pg_conn.proofs.StatementLaws.{depth_moved, depth_unmoved, depth_held}
use Rattle.pg_conn.specs.Turns.{HasAllRoom, HasRoom, HasRoomBeside, kept_for, behind, broken_by, cleanup_of, level_of, wants_level}

pub fits_room : (bytes : List ℕ) (c : ConnSeen) → has_room_for bytes c ≡ true → (length bytes ≤ c.stream.spare) × (c.ledger.owed < 2 ^ 64 - 1)
fits_room bytes c e =
    let b = both_true (leb (length bytes) c.stream.spare) (ltb c.ledger.owed (2 ^ 64 - 1)) e in
    (leb-true _ _ b.0, ltb-true _ _ b.1)

pub has_room : (bytes : List ℕ) (c : ConnSeen) → length bytes ≤ c.stream.spare → c.ledger.owed < 2 ^ 64 - 1 → has_room_for bytes c ≡ true
has_room bytes c l k = rw (le-leb _ _ l, lt-ltb _ _ k) refl

pub group_moves : (frame : List ℕ) (c : ConnSeen) → length frame ≤ c.stream.spare → Moves c.stream (with_group frame c).stream frame []
group_moves frame c fits = (cleans (λ (link : LinkSeen). link) c.stream (with_group frame c).stream frame fits refl).0

-- ---- the frames of rollbacks

savepoint_short : (n : ℕ) → n < 2 ^ 64 → length (codes "ROLLBACK TO SAVEPOINT " ++ savepoint n) ≤ 58
savepoint_short n l =
    let d = length-decimal-le 20 n (omega arith) (omega (arith, l)) l in
    omega (arith, d, length-append (codes "ROLLBACK TO SAVEPOINT ") (savepoint n), length-append (codes "_sqlx_savepoint_") (decimal n))

text_short : (n : ℕ) → n < 2 ^ 64 → length (rollback_text n) ≤ 58
text_short n l = by (nat_eq n 0)
  where
    by : (b : Bool) → length (cond b (codes "ROLLBACK") (codes "ROLLBACK TO SAVEPOINT " ++ savepoint n)) ≤ 58
    by true = omega arith
    by false = savepoint_short n l

pub rollback_short : (n : ℕ) → n < 2 ^ 64 → length (spelled (rollback n)) ≤ 64
rollback_short n l =
    let t = text_short n l in
    omega (arith, t, length-append (rollback_text n) (0 ∷ []), length-append (rollback_text n ++ 0 ∷ []) [])

-- ---- what is kept

pub level_none : (g : ℕ) → level_of changes.Stays g ≡ 0
level_none g = by (nat_eq g 0)
  where
    by : (b : Bool) → ◌≡◌ {A = ℕ} (cond b 0 0) 0
    by true = refl
    by false = refl

pub opening : (change : Change) (groups depth : ℕ) → may_open change groups depth ≡ true → level_of change groups ≡ 64
opening change groups depth e = by (nat_eq groups 0) (nat_eq depth 0) change e
  where
    by : (g d : Bool) (c : Change) → not g && (d && opens c) ≡ true → ◌≡◌ {A = ℕ} (cond g 0 (cond (wants_level c) 64 0)) 64
    by false true changes.Opens e = refl
    by false true changes.Stays e = absurd cc
    by false true changes.Closes e = absurd cc
    by false true changes.Copies e = absurd cc
    by false true changes.Fed e = absurd cc
    by true d c e = absurd cc
    by false false c e = absurd cc

-- a copy from the client has the room of one level too
copying : (change : Change) (groups : ℕ) → copies change groups ≡ true → level_of change groups ≡ 64
copying change groups e = by (nat_eq groups 0) change e
  where
    by : (g : Bool) (c : Change) → not g && begins_copy c ≡ true → ◌≡◌ {A = ℕ} (cond g 0 (cond (wants_level c) 64 0)) 64
    by false changes.Copies e = refl
    by false changes.Stays e = absurd cc
    by false changes.Opens e = absurd cc
    by false changes.Closes e = absurd cc
    by false changes.Fed e = absurd cc
    by true c e = absurd cc

room_ended : (n : ℕ) (c : ConnSeen) → n + cleanup_of c.call ≤ c.stream.spare → HasRoomBeside n (ended c)
room_ended n c h = omega (arith, h, level_none c.groups)

-- a rollback is queued out of the room of one level
pub room_queued : (n : ℕ) (frame : List ℕ) (c : ConnSeen) → length frame ≤ 64 → n + 64 + cleanup_of c.call ≤ c.stream.spare → n + cleanup_of (queued_group frame c).call ≤ (queued_group frame c).stream.spare
room_queued n frame c s h = by (has_room_for frame c)
  where
    by : (b : Bool) → n + cleanup_of (cond b (with_group frame c) c).call ≤ (cond b (with_group frame c) c).stream.spare
    by true = omega (arith, s, h)
    by false = omega (arith, h)

-- what becomes of the statements takes no room, and leaves the depth
record Restates (c d : ConnSeen) : Type 0 where
  spare : d.stream.spare ≡ c.stream.spare
  call : d.call ≡ c.call
  ledger : d.ledger ≡ c.ledger
  stream : d.stream ≡ c.stream
  change : d.change ≡ c.change
  depth : d.rule.depth ≡ c.rule.depth
  held : d.held ≡ c.held

restates : (c : ConnSeen) → Restates c (restated c)
restates c = by (nat_eq c.groups 0)
  where
    by : (b : Bool) → Restates c (cond b (record c { rule = unmoved c.keeping c.rule }) (record c { rule = moved c.keeping c.rule; cache = step_of c.keeping c.cache }))
    by true = record { spare = refl; call = refl; ledger = refl; stream = refl; change = refl; depth = depth_unmoved c.keeping c.rule; held = refl }
    by false = record { spare = refl; call = refl; ledger = refl; stream = refl; change = refl; depth = depth_moved c.keeping c.rule; held = refl }

-- a copy that nothing has ended is failed out of it
pub room_unfed : (n : ℕ) (over : Bool) (c : ConnSeen) → HasRoomBeside n c → HasRoomBeside n (unfed over c)
room_unfed n over c h = by (copies c.change c.groups) refl (not over && leb (length (spelled (copy_fail ∷ []))) c.stream.spare)
  where
    by : (k : Bool) → copies c.change c.groups ≡ k → (m : Bool) → HasRoomBeside n (cond (k && m) (with_copy_fail c) (owned c))
    by true e true = omega (arith, h, copying c.change c.groups e, level_none c.groups)
    by true e false = h
    by false e m = h

depth_unfed : (over : Bool) (c : ConnSeen) → (unfed over c).rule ≡ c.rule
depth_unfed over c = by (copies c.change c.groups && (not over && leb (length (spelled (copy_fail ∷ []))) c.stream.spare))
  where
    by : (b : Bool) → (cond b (with_copy_fail c) (owned c)).rule ≡ c.rule
    by true = refl
    by false = refl

pub held_unfed : (over : Bool) (c : ConnSeen) → (unfed over c).held ≡ c.held
held_unfed over c = by (copies c.change c.groups && (not over && leb (length (spelled (copy_fail ∷ []))) c.stream.spare))
  where
    by : (b : Bool) → (cond b (with_copy_fail c) (owned c)).held ≡ c.held
    by true = refl
    by false = refl

all_unfed : (over : Bool) (c : ConnSeen) → HasAllRoom c → HasAllRoom (unfed over c)
all_unfed over c h = subst (λ (n : ℕ). HasRoomBeside n (unfed over c)) (ap₂ (λ (r : Rule) (k : ℕ). 64 * r.depth + 64 * k) (sym (depth_unfed over c)) (sym (held_unfed over c))) (room_unfed (kept_for c) over c h)

pub room_cleaned : (n : ℕ) (c : ConnSeen) → HasRoomBeside n c → HasRoomBeside n (cleaned c)
unfolding restates
room_cleaned n c h = by (may_open c.change c.groups c.rule.depth) refl
  where
    same : Restates c (restated c)
    same = restates c

    by : (b : Bool) → may_open c.change c.groups c.rule.depth ≡ b → HasRoomBeside n (ended (cond b (queued_group (spelled (rollback 0)) (restated c)) (restated c)))
    by true e =
        let level = opening c.change c.groups c.rule.depth e in
        let wants = ap cleanup_of same.call in
        room_ended n (queued_group (spelled (rollback 0)) (restated c)) (room_queued n (spelled (rollback 0)) (restated c) (rollback_short 0 (omega arith)) (omega (arith, h, level, wants, same.spare)))
    by false e = let wants = ap cleanup_of same.call in room_ended n (restated c) (omega (arith, h, wants, same.spare))

-- what is known of the session stays
pub rule_queued : (frame : List ℕ) (c : ConnSeen) → (queued_group frame c).rule ≡ c.rule
rule_queued frame c = by (has_room_for frame c)
  where
    by : (b : Bool) → (cond b (with_group frame c) c).rule ≡ c.rule
    by true = refl
    by false = refl

pub rule_cleaned : (c : ConnSeen) → (cleaned c).rule ≡ (restated c).rule
rule_cleaned c = by (may_open c.change c.groups c.rule.depth)
  where
    by : (b : Bool) → (ended (cond b (queued_group (spelled (rollback 0)) (restated c)) (restated c))).rule ≡ (restated c).rule
    by true = rule_queued (spelled (rollback 0)) (restated c)
    by false = refl

pub depth_cleaned : (c : ConnSeen) → (cleaned c).rule.depth ≡ c.rule.depth
depth_cleaned c = ap (λ (r : Rule). r.depth) (rule_cleaned c) ∙ (restates c).depth

-- as many locks are held
pub held_queued : (frame : List ℕ) (c : ConnSeen) → (queued_group frame c).held ≡ c.held
held_queued frame c = by (has_room_for frame c)
  where
    by : (b : Bool) → (cond b (with_group frame c) c).held ≡ c.held
    by true = refl
    by false = refl

pub held_cleaned : (c : ConnSeen) → (cleaned c).held ≡ c.held
unfolding restates
held_cleaned c = by (may_open c.change c.groups c.rule.depth) ∙ (restates c).held
  where
    by : (b : Bool) → (ended (cond b (queued_group (spelled (rollback 0)) (restated c)) (restated c))).held ≡ (restated c).held
    by true = held_queued (spelled (rollback 0)) (restated c)
    by false = refl

pub all_cleaned : (c : ConnSeen) → HasAllRoom c → HasAllRoom (cleaned c)
all_cleaned c h = subst (λ (n : ℕ). HasRoomBeside n (cleaned c)) (ap₂ (λ (d k : ℕ). 64 * d + 64 * k) (sym (depth_cleaned c)) (sym (held_cleaned c))) (room_cleaned (kept_for c) c h)

-- an Ok of a begin takes the room that was kept for it
depth_fits : (change : Change) (groups depth : ℕ) → 64 * depth_behind change groups depth ≤ 64 * depth + level_of change groups
depth_fits changes.Stays groups depth = omega arith
depth_fits changes.Closes groups depth = omega arith
depth_fits changes.Copies groups depth = omega arith
depth_fits changes.Fed groups depth = omega arith
depth_fits changes.Opens groups depth = by (nat_eq groups 0)
  where
    by : (b : Bool) → 64 * cond b depth (min (depth + 1) (2 ^ 64 - 1)) ≤ 64 * depth + cond b 0 64
    by true = omega arith
    by false = omega arith

pub all_settled : (c : ConnSeen) → HasAllRoom c → HasAllRoom (settled c)
all_settled c h = omega (arith, h, depth_fits c.change c.groups c.rule.depth, level_none c.groups, depth_moved c.keeping (with_depth (depth_behind c.change c.groups c.rule.depth) c.rule))

room_settled : (c : ConnSeen) → HasRoom c → HasRoom (settled c)
room_settled c h = omega (arith, h, level_none c.groups)

pub room_behind : (beat : Beat) (c : ConnSeen) → HasRoom c → HasRoom (behind beat c)
room_behind (beats.Ends (Ok answer)) c h = room_settled c h
room_behind (beats.HandsOn next) c h = room_settled c h
room_behind (beats.Ends (Err e)) c h = let d : ConnSeen = record c { broken = broken_by (beats.Ends (Err e)) } in room_cleaned 0 (unfed (ends_copy e) d) (room_unfed 0 (ends_copy e) d h)
room_behind beats.More c h = h
room_behind beats.Waits c h = h
room_behind (beats.Yields item) c h = h
room_behind (beats.Opens opened) c h = h

pub all_behind : (beat : Beat) (c : ConnSeen) → HasAllRoom c → HasAllRoom (behind beat c)
all_behind (beats.Ends (Ok answer)) c h = all_settled c h
all_behind (beats.HandsOn next) c h = all_settled c h
all_behind (beats.Ends (Err e)) c h = let d : ConnSeen = record c { broken = broken_by (beats.Ends (Err e)) } in all_cleaned (unfed (ends_copy e) d) (all_unfed (ends_copy e) d h)
all_behind beats.More c h = h
all_behind beats.Waits c h = h
all_behind (beats.Yields item) c h = h
all_behind (beats.Opens opened) c h = h

-- ---- drops, starts and rollbacks

pub all_left : (c : ConnSeen) → HasAllRoom c → HasAllRoom (left c)
all_left c h = by (runs c.call)
  where
    by : (b : Bool) → HasAllRoom (cond b (idle (cleaned (unfed false c))) c)
    by true = let k = all_cleaned (unfed false c) (all_unfed false c h) in omega (arith, k)
    by false = h

pub all_started : (a : ConnSeen) (request : Request) → HasAllRoom a → HasAllRoom (started_call request a)
all_started a request h = let k = all_left a h in omega (arith, k)

pub depth_left : (c : ConnSeen) → (left c).rule.depth ≡ c.rule.depth
depth_left c = by (runs c.call)
  where
    by : (b : Bool) → (cond b (idle (cleaned (unfed false c))) c).rule.depth ≡ c.rule.depth
    by true = depth_cleaned (unfed false c) ∙ ap (λ (r : Rule). r.depth) (depth_unfed false c)
    by false = refl

-- what stands as an exchange has the room that there was
pub room_resolved : (c : ConnSeen) → HasRoom c → HasRoom (resolved c)
room_resolved c h = by c.call refl
  where
    by : (call : Call) → c.call ≡ call → HasRoom (resolved_by call c)
    by (calls.Asked r) e = omega arith
    by calls.Idle e = h
    by (calls.Waiting w) e = h
    by (calls.Own reply) e = h
    by calls.Closing e = h

pub all_resolved : (c : ConnSeen) → HasAllRoom c → HasAllRoom (resolved c)
all_resolved c h = by c.call refl
  where
    by : (call : Call) → c.call ≡ call → HasAllRoom (resolved_by call c)
    by (calls.Asked r) e = omega (arith, h, depth_held c.rule r)
    by calls.Idle e = h
    by (calls.Waiting w) e = h
    by (calls.Own reply) e = h
    by calls.Closing e = h

pub change_queued : (frame : List ℕ) (c : ConnSeen) → (queued_group frame c).change ≡ c.change
change_queued frame c = by (has_room_for frame c)
  where
    by : (b : Bool) → (cond b (with_group frame c) c).change ≡ c.change
    by true = refl
    by false = refl

pub all_of : (n k : ℕ) (c : ConnSeen) → c.rule.depth ≡ n → c.held ≡ k → c.change ≡ changes.Stays → 64 * n + 64 * k + cleanup_of c.call ≤ c.stream.spare → HasAllRoom c
all_of n g c e f k h =
    let none : level_of c.change c.groups ≡ 0 = ap (λ (x : Change). level_of x c.groups) k ∙ level_none c.groups in
    omega (arith, h, e, f, none)

pub some : (n : ℕ) → nat_eq n 0 ≡ false → 0 < n
some zero e = absurd cc
some (suc n) e = omega arith

pub all_rolled : (c : ConnSeen) → c.rule.depth < 2 ^ 64 → c.change ≡ changes.Stays → HasAllRoom c → HasAllRoom (rolled c)
all_rolled c l k h = by (nat_eq c.rule.depth 0) refl
  where
    by : (b : Bool) → nat_eq c.rule.depth 0 ≡ b → HasAllRoom (cond b c (queued_group (spelled (rollback (c.rule.depth - 1))) (record c { rule = with_depth (c.rule.depth - 1) c.rule })))
    by true e = h
    by false e =
        let d : ConnSeen = record c { rule = with_depth (c.rule.depth - 1) c.rule } in
        let f : List ℕ = spelled (rollback (c.rule.depth - 1)) in
        let positive = some c.rule.depth e in
        let kept = room_queued (64 * (c.rule.depth - 1) + 64 * c.held) f d (rollback_short (c.rule.depth - 1) (omega (arith, l))) (omega (arith, h, positive)) in
        all_of (c.rule.depth - 1) c.held (queued_group f d) (ap (λ (r : Rule). r.depth) (rule_queued f d)) (held_queued f d) (change_queued f d ∙ k) kept

pub all_rolled_back : (a : ConnSeen) → a.rule.depth < 2 ^ 64 → HasAllRoom a → HasAllRoom (rolled_back a)
all_rolled_back a l h =
    let k = all_left a h in
    let d : ConnSeen = ended (counted_anew (left a)) in
    all_rolled d (rw (depth_left a) l) refl (omega (arith, k, level_none 0))

-- ---- a begin that is dropped

-- what copies nothing from the client is left as it is
pub stays_unfed : {A : Type 0} (over : Bool) (c : ConnOf A) → copies c.change c.groups ≡ false → has_fed c.change c.groups ≡ false → unfed over c ≡ c
stays_unfed {A} over c k f =
    ap (λ (b : Bool). cond (b && (not over && leb (length (spelled (copy_fail ∷ []))) c.stream.spare)) (with_copy_fail c) (owned c)) k
    ∙ ap (λ (b : Bool). record c { ledger = record c.ledger { is_copy_failed = b || c.ledger.is_copy_failed } }) f

-- as a begin does
begin_unfed : (c : ConnSeen) → may_open c.change c.groups c.rule.depth ≡ true → (copies c.change c.groups ≡ false) × (has_fed c.change c.groups ≡ false)
begin_unfed c m = by (not (nat_eq c.groups 0)) (nat_eq c.rule.depth 0) c.change m
  where
    by : (g d : Bool) (change : Change) → g && (d && opens change) ≡ true → (g && begins_copy change ≡ false) × (g && is_fed change ≡ false)
    by true true changes.Opens m = (refl, refl)
    by true true changes.Stays m = absurd cc
    by true true changes.Closes m = absurd cc
    by true true changes.Copies m = absurd cc
    by true true changes.Fed m = absurd cc
    by true false change m = absurd cc
    by false d change m = (refl, refl)

pub rolls_dropped : (c : ConnSeen) → runs c.call ≡ true → may_open c.change c.groups c.rule.depth ≡ true → HasRoom c → c.ledger.owed < 2 ^ 64 - 1 → left c ≡ idle (ended (with_group (spelled (rollback 0)) (restated c)))
rolls_dropped c r m h l =
    let short = rollback_short 0 (omega arith) in
    let level = opening c.change c.groups c.rule.depth m in
    let same = restates c in
    let owed = ap (λ (x : Ledger). x.owed) same.ledger in
    let room = has_room (spelled (rollback 0)) (restated c) (omega (arith, short, level, h, same.spare)) (omega (arith, l, owed)) in
    let copied = begin_unfed c m in
    rw (r, stays_unfed false c copied.0 copied.1, m, room) refl

-- and of another call that doesn't copy from the client nothing is queued
pub stays_dropped : (c : ConnSeen) → may_open c.change c.groups c.rule.depth ≡ false → copies c.change c.groups ≡ false → has_fed c.change c.groups ≡ false → ((left c).ledger ≡ c.ledger) × ((left c).stream ≡ c.stream)
stays_dropped c m k f = by (runs c.call)
  where
    by : (b : Bool) → ((cond b (idle (cleaned (unfed false c))) c).ledger ≡ c.ledger) × ((cond b (idle (cleaned (unfed false c))) c).stream ≡ c.stream)
    by true = rw (stays_unfed false c k f, m) ((restates c).ledger, (restates c).stream)
    by false = (refl, refl)

-- a copy from the client that is dropped is failed
pub fails_dropped : (c : ConnSeen) → runs c.call ≡ true → copies c.change c.groups ≡ true → HasRoom c → left c ≡ idle (cleaned (with_copy_fail c))
fails_dropped c r k h =
    let level = copying c.change c.groups k in
    let fits : leb (length (spelled (copy_fail ∷ []))) c.stream.spare ≡ true = le-leb _ _ (omega (arith, level, h)) in
    rw (r, k, fits) refl

-- and of one all of whose data was sent nothing is queued: its reply stays owed, for which no CopyFail is due
fed_fails : (c : ConnSeen) → has_fed c.change c.groups ≡ true → (copies c.change c.groups ≡ false) × (may_open c.change c.groups c.rule.depth ≡ false)
fed_fails c f = by (not (nat_eq c.groups 0)) (nat_eq c.rule.depth 0) c.change f
  where
    by : (g d : Bool) (change : Change) → g && is_fed change ≡ true → (g && begins_copy change ≡ false) × (g && (d && opens change) ≡ false)
    by true true changes.Fed f = (refl, refl)
    by true false changes.Fed f = (refl, refl)
    by true d changes.Stays f = absurd cc
    by true d changes.Opens f = absurd cc
    by true d changes.Closes f = absurd cc
    by true d changes.Copies f = absurd cc
    by false d change f = absurd cc

pub owes_dropped : (c : ConnSeen) → runs c.call ≡ true → has_fed c.change c.groups ≡ true → ((left c).ledger ≡ record c.ledger { is_copy_failed = true }) × ((left c).stream ≡ c.stream)
owes_dropped c r f =
    let other = fed_fails c f in
    let same = restates (owned c) in
    let marked : (owned c).ledger ≡ record c.ledger { is_copy_failed = true } = ap (λ (b : Bool). record c.ledger { is_copy_failed = b || c.ledger.is_copy_failed }) f in
    rw (r, other.0, other.1) (same.ledger ∙ marked, same.stream)

-- behind start-up nothing is open
pub all_fresh : (capacity : ℕ) (stream : StreamSeen) (sent read : ℕ) → HasAllRoom (fresh_connection capacity stream sent read)
all_fresh capacity stream sent read = omega arith
