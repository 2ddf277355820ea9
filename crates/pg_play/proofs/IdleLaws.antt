-- Where nothing is open, the server's session is idle.
use Rattle.std.proofs.Common.{◌++◌, ◌≡◌, ◌≢◌, ℕ, zero, suc, ◌+◌, ◌-◌, ◌^◌, ◌<◌, ◌≤◌, min, Bool, true, false, cond, List, [], ◌∷◌, length, refl, sym, ap, ◌∙◌, subst, arith, length-append, ◌⊎◌, inl, inr, nat_eq, ◌&&◌, not, codes}
use Rattle.pg_rule.specs.declared.rule.Rule.{Rule}
use Rattle.pg_wire.specs.Frontend.{Query}
use Rattle.std.proofs.lemmas.Bool.{lt-ltb}
use Rattle.pg_wire.specs.Frame.{Frame}
use Rattle.pg_wire.specs.Backend.{BackendMessage}
use Rattle.pg_call.specs.Requests.{Group, groups_of}
use Rattle.pg_conn.specs.Connections.{rollback}
use Rattle.pg_conn.specs.Holding.{release}
use Rattle.pg_report.specs.declared.outcome.End.{End}
use Rattle.pg_report.specs.declared.outcome.End.TheVariants as ends
use Rattle.pg_report.specs.declared.outcome.Outcome.{Outcome}
use Rattle.pg_script.specs.declared.step.Call.{Call}
use Rattle.pg_script.specs.declared.step.Call.TheVariants as calls
use Rattle.pg_script.specs.declared.step.Step.{Step}
use Rattle.pg_play.specs.Shown.{request_of, begins, acts_at_once}
use Rattle.pg_play.specs.Places.{Place, owed, ended, is_fine, Queues}
use Rattle.pg_play.specs.Told.{WellAtOk, HasNoError}
use Rattle.pg_play.specs.Settling.{cleanup_of, depth_after, rollback_at, release_at}
use Rattle.pg_play.specs.Idles.{KeepsOrder}
use Rattle.pg_play.specs.Plays.{Plays_exchange, Plays_exchanges, Plays_from, AreOrderlyIn, AreOrderly, AreIdleIn, AreIdle, begun_at}
use Rattle.pg_play.proofs.StepLaws.{at_most_group}
use Rattle.pg_play.proofs.SettleLaws.{left_groups}
use Rattle.pg_play.proofs.SettledLaws.{depth_rule, fine_has}

well_error : (end : End) (step : Step) (out : Outcome) (response : List BackendMessage) (slice : List Frame) (next : Place) → is_fine end ≡ true → WellAtOk end step out response slice next → HasNoError slice
well_error (ends.Ok answer) step out response slice next f w = w.no_error
well_error (ends.Err e) step out response slice next f w = absurd cc
well_error ends.Dropped step out response slice next f w = absurd cc

well_ended : (end : End) (step : Step) (out : Outcome) (response : List BackendMessage) (slice : List Frame) (next : Place) → is_fine end ≡ true → WellAtOk end step out response slice next → ended next ≡ length next.groups
well_ended (ends.Ok answer) step out response slice next f w = w.answered
well_ended (ends.Err e) step out response slice next f w = absurd cc
well_ended ends.Dropped step out response slice next f w = absurd cc

queues_few : (end : End) (whole own : List Group) → Queues end whole own → length own ≤ length whole
queues_few (ends.Ok answer) whole own q = omega (arith, ap (λ (g : List Group). length g) q)
queues_few (ends.Err e) whole own q = omega (arith, length-append own q.0, ap (λ (g : List Group). length g) q.1)
queues_few ends.Dropped whole own q = omega (arith, length-append own q.0, ap (λ (g : List Group). length g) q.1)

few_groups : (d : ℕ) (call : Call) → length (groups_of (request_of d call)) ≤ 1
few_groups d call = by (at_most_group d call)
  where
    by : (groups_of (request_of d call) ≡ []) ⊎ (length (groups_of (request_of d call)) ≡ 1) → length (groups_of (request_of d call)) ≤ 1
    by (inl e) = omega (arith, ap (λ (g : List Group). length g) e)
    by (inr e) = omega (arith, e)

-- ---- one step, of plain data

plain_idle : (idle : ℕ → Type 0) (n : ℕ) (own cleanup : List Group) → length own ≤ 1 → cleanup ≡ [] → idle n → (own ≢ [] → idle n → idle (n + 1)) → idle (n + length own + length cleanup)
plain_idle idle n [] cleanup l c i more = subst idle (omega (arith, ap (λ (g : List Group). length g) c)) i
plain_idle idle n (g ∷ gs) cleanup l c i more = subst idle (omega (arith, ap (λ (g : List Group). length g) c, l)) (more (λ e. cc) i)

-- no cleanup of what is no begin
no_cleanup : (d : ℕ) (call : Call) (end : End) (own : List Group) (owed : ℕ) → begins call ≡ false → acts_at_once call ≡ false → cleanup_of d call end own owed ≡ []
no_cleanup d (calls.Execute query) end [] o b a = refl
no_cleanup d (calls.Execute query) end (g ∷ gs) o b a = refl
no_cleanup d (calls.ExecuteMany query) end [] o b a = refl
no_cleanup d (calls.ExecuteMany query) end (g ∷ gs) o b a = refl
no_cleanup d (calls.Fetch query) end [] o b a = refl
no_cleanup d (calls.Fetch query) end (g ∷ gs) o b a = refl
no_cleanup d (calls.FetchMany query) end [] o b a = refl
no_cleanup d (calls.FetchMany query) end (g ∷ gs) o b a = refl
no_cleanup d (calls.FetchAll query) end [] o b a = refl
no_cleanup d (calls.FetchAll query) end (g ∷ gs) o b a = refl
no_cleanup d (calls.FetchOptional query) end [] o b a = refl
no_cleanup d (calls.FetchOptional query) end (g ∷ gs) o b a = refl
no_cleanup d (calls.FetchOne query) end [] o b a = refl
no_cleanup d (calls.FetchOne query) end (g ∷ gs) o b a = refl
no_cleanup d calls.Ping end [] o b a = refl
no_cleanup d calls.Ping end (g ∷ gs) o b a = refl
no_cleanup d (calls.CopyOut query) end [] o b a = refl
no_cleanup d (calls.CopyOut query) end (g ∷ gs) o b a = refl
no_cleanup d (calls.Feed fed) end [] o b a = refl
no_cleanup d (calls.Feed fed) end (g ∷ gs) o b a = refl
no_cleanup d calls.Flush end [] o b a = refl
no_cleanup d calls.Flush end (g ∷ gs) o b a = refl
no_cleanup d (calls.Chain chain) end [] o b a = refl
no_cleanup d (calls.Chain chain) end (g ∷ gs) o b a = refl
no_cleanup d calls.Begin end own o b a = absurd cc
no_cleanup d (calls.BeginWith query) end own o b a = absurd cc
no_cleanup d calls.Commit end [] o b a = refl
no_cleanup d calls.Commit end (g ∷ gs) o b a = refl
no_cleanup d calls.Rollback end [] o b a = refl
no_cleanup d calls.Rollback end (g ∷ gs) o b a = refl
no_cleanup d calls.StartRollback end own o b a = absurd cc
no_cleanup d (calls.Release text) end own o b a = absurd cc
no_cleanup d (calls.Describe extended) end [] o b a = refl
no_cleanup d (calls.Describe extended) end (g ∷ gs) o b a = refl
no_cleanup d (calls.Run bound) end [] o b a = refl
no_cleanup d (calls.Run bound) end (g ∷ gs) o b a = refl
no_cleanup d (calls.Prepare preparation) end [] o b a = refl
no_cleanup d (calls.Prepare preparation) end (g ∷ gs) o b a = refl
no_cleanup d calls.Clear end [] o b a = refl
no_cleanup d calls.Clear end (g ∷ gs) o b a = refl
no_cleanup d (calls.Evict eviction) end [] o b a = refl
no_cleanup d (calls.Evict eviction) end (g ∷ gs) o b a = refl
no_cleanup d (calls.Look lookup) end [] o b a = refl
no_cleanup d (calls.Fill filling) end [] o b a = refl
no_cleanup d (calls.Look lookup) end (g ∷ gs) o b a = refl
no_cleanup d (calls.Fill filling) end (g ∷ gs) o b a = refl
no_cleanup d (calls.Tell prepared) end [] o b a = refl
no_cleanup d (calls.Tell prepared) end (g ∷ gs) o b a = refl
no_cleanup d (calls.CloseAll statements) end [] o b a = refl
no_cleanup d (calls.CloseAll statements) end (g ∷ gs) o b a = refl

few_own : (d : ℕ) (call : Call) (end : End) (own : List Group) → Queues end (groups_of (request_of d call)) own → length own ≤ 1
few_own d call end own q = omega (arith, queues_few end (groups_of (request_of d call)) own q, few_groups d call)

-- what is queued at Ok where so many are open
own_at : (d k : ℕ) (call : Call) (end : End) (own : List Group) → d ≡ k → is_fine end ≡ true → Queues end (groups_of (request_of d call)) own → own ≡ groups_of (request_of k call)
own_at d k call end own e f q = fine_has end (groups_of (request_of d call)) own f q ∙ ap (λ (n : ℕ). groups_of (request_of n call)) e

begin_cleans : (own cleanup : List Group) (d : ℕ) (end : End) → d ≡ 0 → is_fine end ≡ false → cleanup ≡ cond (nat_eq d 0 && not (is_fine end)) (rollback 0 ∷ []) [] → cleanup ≡ rollback 0 ∷ []
begin_cleans own cleanup d end z f c = c ∙ ap (λ (n : ℕ). cond (nat_eq n 0 && not (is_fine end)) (rollback 0 ∷ []) []) z ∙ ap (λ (b : Bool). cond (not b) (rollback 0 ∷ []) []) f

-- a begin that isn't Ok has asked nothing, or is rolled back
begun_idle : (idle : ℕ → Type 0) (n d : ℕ) (end : End) (g : Group) (gs cleanup : List Group) (b : Bool) → is_fine end ≡ b → cond b (min (d + 1) (2 ^ 64 - 1)) d ≡ 0 → (cleanup ≡ rollback 0 ∷ [] → idle (n + length (g ∷ gs) + 1)) → cleanup ≡ cond (nat_eq d 0 && not (is_fine end)) (rollback 0 ∷ []) [] → idle (n + length (g ∷ gs) + length cleanup)
begun_idle idle n d end g gs cleanup true f z cleans c = absurd (omega (arith, z))
begun_idle idle n d end g gs cleanup false f z cleans c =
    let one = begin_cleans (g ∷ gs) cleanup d end z f c in
    subst idle (omega (arith, ap (λ (x : List Group). length x) one)) (cleans one)

unbegun_idle : (idle : ℕ → Type 0) (n d : ℕ) (cleanup : List Group) (b : Bool) → cond b (min (d + 1) (2 ^ 64 - 1)) d ≡ 0 → (d ≡ 0 → idle n) → cleanup ≡ [] → idle (n + 0 + length cleanup)
unbegun_idle idle n d cleanup true z i c = absurd (omega (arith, z))
unbegun_idle idle n d cleanup false z i c = subst idle (omega (arith, ap (λ (x : List Group). length x) c)) (i z)

closes_to_none : (b : Bool) (d : ℕ) → cond b (d - 1) d ≡ 0 → (d ≡ 0) ⊎ ((d ≡ 1) × (b ≡ true))
closes_to_none true zero z = inl refl
closes_to_none true (suc n) z = inr (omega (arith, z), refl)
closes_to_none false d z = inl z

own_last : (idle : ℕ → Type 0) (n : ℕ) (own cleanup : List Group) (group : Group) → own ≡ group ∷ [] → cleanup ≡ [] → idle (n + 1) → idle (n + length own + length cleanup)
own_last idle n own cleanup group e c i = subst idle (omega (arith, ap (λ (x : List Group). length x) e, ap (λ (x : List Group). length x) c)) i

none_own : (end : End) (own : List Group) → Queues end [] own → length own ≡ 0
none_own end own q = omega (arith, queues_few end [] own q)

rolled_idle : (idle : ℕ → Type 0) (n d : ℕ) (own cleanup : List Group) (owed : ℕ) → length own ≡ 0 → owed < 2 ^ 64 - 1 → d - 1 ≡ 0 → (d ≡ 0 → idle n) → (cleanup ≡ rollback 0 ∷ [] → idle (n + length own + 1)) → cleanup ≡ rollback_at d owed → idle (n + length own + length cleanup)
rolled_idle idle n zero own cleanup owed o l z i cleans c = subst idle (omega (arith, o, ap (λ (x : List Group). length x) c)) (i refl)
rolled_idle idle n (suc zero) own cleanup owed o l z i cleans c =
    let one : cleanup ≡ rollback 0 ∷ [] = c ∙ ap (λ (b : Bool). cond b (rollback 0 ∷ []) []) (lt-ltb _ _ l) in
    subst idle (omega (arith, ap (λ (x : List Group). length x) one)) (cleans one)
rolled_idle idle n (suc (suc k)) own cleanup owed o l z i cleans c = absurd (omega (arith, z))

-- what the groups of a cleanup leave
abbrev Cleans : (idle : ℕ → Type 0) (n : ℕ) (call : Call) (own cleanup : List Group) → Type 0
Cleans idle n call own cleanup = (cleanup ≡ rollback 0 ∷ [] → idle (n + length own + 1)) × ((text : List ℕ) → call ≡ calls.Release text → cleanup ≢ [] → idle n → idle (n + 1))

released_idle : (idle : ℕ → Type 0) (n : ℕ) (text : List ℕ) (own cleanup : List Group) (owed : ℕ) → length own ≡ 0 → owed < 2 ^ 64 - 1 → idle n → (cleanup ≢ [] → idle n → idle (n + 1)) → cleanup ≡ release_at text owed → idle (n + length own + length cleanup)
released_idle idle n text own cleanup owed o l i stays c =
    let one : cleanup ≡ release text ∷ [] = c ∙ ap (λ (b : Bool). cond b (release text ∷ []) []) (lt-ltb _ _ l) in
    subst idle (omega (arith, o, ap (λ (x : List Group). length x) one)) (stays (λ e. let x = sym one ∙ e in cc) i)

idle_by : (idle : ℕ → Type 0) (n d : ℕ) (call : Call) (end : End) (own cleanup : List Group) (owed : ℕ) → (begins call ≡ false → own ≢ [] → idle n → idle (n + 1)) → (call ≡ calls.Commit → is_fine end ≡ true → own ≡ (Query (codes "COMMIT") ∷ []) ∷ [] → idle (n + 1)) → (call ≡ calls.Rollback → own ≡ rollback 0 ∷ [] → idle (n + 1)) → Cleans idle n call own cleanup
    → cleanup ≡ cleanup_of d call end own owed → Queues end (groups_of (request_of d call)) own → owed < 2 ^ 64 - 1 → (d ≡ 0 → idle n) → depth_after d call end ≡ 0 → idle (n + length own + length cleanup)
idle_by idle n d (calls.Execute query) end own cleanup owed others commits rolls cleans c q l i z = plain_idle idle n own cleanup (few_own d (calls.Execute query) end own q) (c ∙ no_cleanup d (calls.Execute query) end own owed refl refl) (i z) (others refl)
idle_by idle n d (calls.ExecuteMany query) end own cleanup owed others commits rolls cleans c q l i z = plain_idle idle n own cleanup (few_own d (calls.ExecuteMany query) end own q) (c ∙ no_cleanup d (calls.ExecuteMany query) end own owed refl refl) (i z) (others refl)
idle_by idle n d (calls.Fetch query) end own cleanup owed others commits rolls cleans c q l i z = plain_idle idle n own cleanup (few_own d (calls.Fetch query) end own q) (c ∙ no_cleanup d (calls.Fetch query) end own owed refl refl) (i z) (others refl)
idle_by idle n d (calls.FetchMany query) end own cleanup owed others commits rolls cleans c q l i z = plain_idle idle n own cleanup (few_own d (calls.FetchMany query) end own q) (c ∙ no_cleanup d (calls.FetchMany query) end own owed refl refl) (i z) (others refl)
idle_by idle n d (calls.FetchAll query) end own cleanup owed others commits rolls cleans c q l i z = plain_idle idle n own cleanup (few_own d (calls.FetchAll query) end own q) (c ∙ no_cleanup d (calls.FetchAll query) end own owed refl refl) (i z) (others refl)
idle_by idle n d (calls.FetchOptional query) end own cleanup owed others commits rolls cleans c q l i z = plain_idle idle n own cleanup (few_own d (calls.FetchOptional query) end own q) (c ∙ no_cleanup d (calls.FetchOptional query) end own owed refl refl) (i z) (others refl)
idle_by idle n d (calls.FetchOne query) end own cleanup owed others commits rolls cleans c q l i z = plain_idle idle n own cleanup (few_own d (calls.FetchOne query) end own q) (c ∙ no_cleanup d (calls.FetchOne query) end own owed refl refl) (i z) (others refl)
idle_by idle n d calls.Ping end own cleanup owed others commits rolls cleans c q l i z = plain_idle idle n own cleanup (few_own d calls.Ping end own q) (c ∙ no_cleanup d calls.Ping end own owed refl refl) (i z) (others refl)
idle_by idle n d (calls.CopyOut query) end own cleanup owed others commits rolls cleans c q l i z = plain_idle idle n own cleanup (few_own d (calls.CopyOut query) end own q) (c ∙ no_cleanup d (calls.CopyOut query) end own owed refl refl) (i z) (others refl)
idle_by idle n d (calls.Feed fed) end own cleanup owed others commits rolls cleans c q l i z = plain_idle idle n own cleanup (few_own d (calls.Feed fed) end own q) (c ∙ no_cleanup d (calls.Feed fed) end own owed refl refl) (i z) (others refl)
idle_by idle n d calls.Flush end own cleanup owed others commits rolls cleans c q l i z = plain_idle idle n own cleanup (few_own d calls.Flush end own q) (c ∙ no_cleanup d calls.Flush end own owed refl refl) (i z) (others refl)
idle_by idle n d (calls.Chain chain) end own cleanup owed others commits rolls cleans c q l i z = plain_idle idle n own cleanup (few_own d (calls.Chain chain) end own q) (c ∙ no_cleanup d (calls.Chain chain) end own owed refl refl) (i z) (others refl)
idle_by idle n d calls.Begin end [] cleanup owed others commits rolls cleans c q l i z = unbegun_idle idle n d cleanup (is_fine end) z i c
idle_by idle n d calls.Begin end (g ∷ gs) cleanup owed others commits rolls cleans c q l i z = begun_idle idle n d end g gs cleanup (is_fine end) refl z cleans.0 c
idle_by idle n d (calls.BeginWith query) end [] cleanup owed others commits rolls cleans c q l i z = unbegun_idle idle n d cleanup (is_fine end) z i c
idle_by idle n d (calls.BeginWith query) end (g ∷ gs) cleanup owed others commits rolls cleans c q l i z = begun_idle idle n d end g gs cleanup (is_fine end) refl z cleans.0 c
idle_by idle n d calls.Commit end own cleanup owed others commits rolls cleans c q l i z =
    let none = c ∙ no_cleanup d calls.Commit end own owed refl refl in
    elim (closes_to_none (is_fine end) d (z)) [
      | inl e ↦ plain_idle idle n own cleanup (few_own d calls.Commit end own q) none (i e) (others refl)
      | inr (e, f) ↦ let last = own_at d 1 calls.Commit end own e f q in own_last idle n own cleanup (Query (codes "COMMIT") ∷ []) last none (commits refl f last)
    ]
idle_by idle n d calls.Rollback end own cleanup owed others commits rolls cleans c q l i z =
    let none = c ∙ no_cleanup d calls.Rollback end own owed refl refl in
    elim (closes_to_none (is_fine end) d (z)) [
      | inl e ↦ plain_idle idle n own cleanup (few_own d calls.Rollback end own q) none (i e) (others refl)
      | inr (e, f) ↦ let last = own_at d 1 calls.Rollback end own e f q in own_last idle n own cleanup (rollback 0) last none (rolls refl last)
    ]
idle_by idle n d calls.StartRollback end own cleanup owed others commits rolls cleans c q l i z = rolled_idle idle n d own cleanup owed (none_own end own q) l z i cleans.0 c
idle_by idle n d (calls.Release text) end own cleanup owed others commits rolls cleans c q l i z = released_idle idle n text own cleanup owed (none_own end own q) l (i z) (cleans.1 text refl) c
idle_by idle n d (calls.Describe extended) end own cleanup owed others commits rolls cleans c q l i z = plain_idle idle n own cleanup (few_own d (calls.Describe extended) end own q) (c ∙ no_cleanup d (calls.Describe extended) end own owed refl refl) (i z) (others refl)
idle_by idle n d (calls.Run bound) end own cleanup owed others commits rolls cleans c q l i z = plain_idle idle n own cleanup (few_own d (calls.Run bound) end own q) (c ∙ no_cleanup d (calls.Run bound) end own owed refl refl) (i z) (others refl)
idle_by idle n d (calls.Prepare preparation) end own cleanup owed others commits rolls cleans c q l i z = plain_idle idle n own cleanup (few_own d (calls.Prepare preparation) end own q) (c ∙ no_cleanup d (calls.Prepare preparation) end own owed refl refl) (i z) (others refl)
idle_by idle n d calls.Clear end own cleanup owed others commits rolls cleans c q l i z = plain_idle idle n own cleanup (few_own d calls.Clear end own q) (c ∙ no_cleanup d calls.Clear end own owed refl refl) (i z) (others refl)
idle_by idle n d (calls.Evict eviction) end own cleanup owed others commits rolls cleans c q l i z = plain_idle idle n own cleanup (few_own d (calls.Evict eviction) end own q) (c ∙ no_cleanup d (calls.Evict eviction) end own owed refl refl) (i z) (others refl)
idle_by idle n d (calls.Look lookup) end own cleanup owed others commits rolls cleans c q l i z = plain_idle idle n own cleanup (few_own d (calls.Look lookup) end own q) (c ∙ no_cleanup d (calls.Look lookup) end own owed refl refl) (i z) (others refl)
idle_by idle n d (calls.Fill filling) end own cleanup owed others commits rolls cleans c q l i z = plain_idle idle n own cleanup (few_own d (calls.Fill filling) end own q) (c ∙ no_cleanup d (calls.Fill filling) end own owed refl refl) (i z) (others refl)
idle_by idle n d (calls.Tell prepared) end own cleanup owed others commits rolls cleans c q l i z = plain_idle idle n own cleanup (few_own d (calls.Tell prepared) end own q) (c ∙ no_cleanup d (calls.Tell prepared) end own owed refl refl) (i z) (others refl)
idle_by idle n d (calls.CloseAll statements) end own cleanup owed others commits rolls cleans c q l i z = plain_idle idle n own cleanup (few_own d (calls.CloseAll statements) end own q) (c ∙ no_cleanup d (calls.CloseAll statements) end own owed refl refl) (i z) (others refl)

-- ---- the exchanges of a play

-- a COMMIT that is Ok is answered, and without an error
commits_at : {idle : ℕ → Type 0} (at : Place) (step : Step) (out : Outcome) (next : Place) (one : Plays_exchange at step out next) → KeepsOrder idle at step one.call.own one.settles.cleanup one.call.slice one.ended_at
    → step.call ≡ calls.Commit → is_fine one.told.end ≡ true → one.call.own ≡ (Query (codes "COMMIT") ∷ []) ∷ [] → idle (length at.groups + 1)
commits_at at step out next one k c f e =
    let told = one.call.told in
    let well = told.well (ap acts_at_once c) in
    k.commits c e (well_error one.told.end step one.told told.response one.call.slice one.ended_at f well) (well_ended one.told.end step one.told told.response one.call.slice one.ended_at f well)

idle_exchange : (idle : ℕ → Type 0) (at : Place) (step : Step) (out : Outcome) (next : Place) (one : Plays_exchange at step out next) → length next.groups < 2 ^ 64 - 1 → KeepsOrder idle at step one.call.own one.settles.cleanup one.call.slice one.ended_at → (at.rule.depth ≡ 0 → idle (length at.groups)) → next.rule.depth ≡ 0 → idle (length next.groups)
idle_exchange idle at step out next one l k i z =
    let call = one.call in
    let settles = one.settles in
    let first : length one.ended_at.groups ≡ length at.groups + length call.own = ap (λ (g : List Group). length g) call.queued.groups ∙ length-append at.groups call.own in
    let left : one.left_at.groups ≡ one.ended_at.groups = left_groups step.call call.own one.told.end one.ended_at one.left_at one.leaves in
    let all : length next.groups ≡ length one.ended_at.groups + length settles.cleanup = ap (λ (g : List Group). length g) (settles.groups ∙ ap (λ (g : List Group). g ++ settles.cleanup) left) ∙ length-append one.ended_at.groups settles.cleanup in
    let few : owed one.left_at < 2 ^ 64 - 1 = omega (arith, all, l, ap (λ (g : List Group). length g) left) in
    subst idle (omega (arith, first, all))
    (idle_by idle (length at.groups) at.rule.depth step.call one.told.end call.own settles.cleanup (owed one.left_at) k.others (commits_at at step out next one k) k.rolls (k.cleans, k.releases) settles.cleans call.queued.asks few i (sym (ap (λ (r : Rule). r.depth) settles.rule ∙ depth_rule at.rule step.call call.own settles.asks one.told.end) ∙ z))

more_in : (at : Place) (steps : List Step) (outs : List Outcome) (last : Place) → Plays_exchanges at steps outs last → length at.groups ≤ length last.groups
more_in at [] [] last run = omega (arith, ap (λ (p : Place). length p.groups) run)
more_in at [] (o ∷ outs) last run = absurd run
more_in at (s ∷ steps) [] last run = absurd run
more_in at (s ∷ steps) (o ∷ outs) last run =
    let next = run.0 in
    let one = run.1 in
    let rest = more_in next steps outs last run.2 in
    omega (arith, rest, ap (λ (g : List Group). length g) one.call.queued.groups, length-append at.groups one.call.own, ap (λ (g : List Group). length g) (left_groups s.call one.call.own one.told.end one.ended_at one.left_at one.leaves), ap (λ (g : List Group). length g) one.settles.groups, length-append one.left_at.groups one.settles.cleanup)

abbrev IdlesAt : (ℕ → Type 0) → Place → Type 0
IdlesAt idle at = at.rule.depth ≡ 0 → idle (length at.groups)

idles_in : (idle : ℕ → Type 0) (at : Place) (steps : List Step) (outs : List Outcome) (last : Place) (run : Plays_exchanges at steps outs last) → length last.groups < 2 ^ 64 - 1 → IdlesAt idle at → AreOrderlyIn idle at steps outs last run → AreIdleIn idle at steps outs last run × IdlesAt idle last
idles_in idle at [] [] last run l i o = (tt, subst (IdlesAt idle) (sym run) i)
idles_in idle at [] (x ∷ outs) last run l i o = absurd run
idles_in idle at (s ∷ steps) [] last run l i o = absurd run
idles_in idle at (s ∷ steps) (x ∷ outs) last run l i o =
    let few : length (run.0).groups < 2 ^ 64 - 1 = omega (arith, more_in run.0 steps outs last run.2, l) in
    let next = idle_exchange idle at s x run.0 run.1 few o.0 i in
    let rest = idles_in idle run.0 steps outs last run.2 l next o.1 in
    ((next, rest.0), rest.1)

-- ---- the steps of a play

more_groups : (at : Place) (steps : List Step) (outs : List Outcome) (last : Place) → Plays_from at steps outs last → length at.groups ≤ length last.groups
more_groups at [] [] last run = omega (arith, ap (λ (p : Place). length p.groups) run)
more_groups at [] (o ∷ outs) last run = absurd run
more_groups at (s ∷ steps) [] last run = absurd run
more_groups at (s ∷ steps) (o ∷ outs) last run =
    let here = more_in (begun_at at run.1.learnt) run.1.exchanges run.1.outs run.0 run.1.run in
    let rest = more_groups run.0 steps outs last run.2 in
    omega (arith, here, rest)

pub idles_all : (idle : ℕ → Type 0) (at : Place) (steps : List Step) (outs : List Outcome) (last : Place) (run : Plays_from at steps outs last) → length last.groups < 2 ^ 64 - 1 → (at.rule.depth ≡ 0 → idle (length at.groups)) → AreOrderly idle at steps outs last run → AreIdle idle at steps outs last run
idles_all idle at [] [] last run l i o = tt
idles_all idle at [] (x ∷ outs) last run l i o = absurd run
idles_all idle at (s ∷ steps) [] last run l i o = absurd run
idles_all idle at (s ∷ steps) (x ∷ outs) last run l i o =
    let few : length (run.0).groups < 2 ^ 64 - 1 = omega (arith, more_groups run.0 steps outs last run.2, l) in
    let here = idles_in idle (begun_at at run.1.learnt) run.1.exchanges run.1.outs run.0 run.1.run few i o.0 in
    (here.0, idles_all idle run.0 steps outs last run.2 l here.1 o.1)
