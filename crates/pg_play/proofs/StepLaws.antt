-- A call that was played is a step from one place to the next: what it queued.
use Rattle.std.proofs.Common.{◌≡◌, ℕ, ◌+◌, ◌≤◌, ◌<◌, Bool, false, ◌⊎◌, inl, inr, List, [], ◌∷◌, ◌++◌, length, map, refl, sym, ap, ◌∙◌, subst, arith, append_assoc, append-nil, zero, suc, true}
use Rattle.pg_play.proofs.ShownLaws.{none_shown}
use Rattle.std.specs.List.{count_by, AllByRecursion}
use Rattle.pg_wire.specs.Frame.{Frame}
use Rattle.pg_wire.specs.Parts.{is_ready}
use Rattle.pg_wire.specs.Frontend.{FrontendMessage}
use Rattle.pg_wire.specs.Backend.{BackendMessage, backend_frame, HasBackendFrame}
use Rattle.pg_wire.specs.Server.{IsPrefixOf}
use Rattle.pg_call.specs.declared.request.Request.{Request}
use Rattle.pg_call.specs.declared.kind.Kind.TheVariants as kinds
use Rattle.pg_call.specs.declared.answer.CallItem.{CallItem}
use Rattle.pg_call.specs.declared.ledger.Ledger.{Ledger}
use Rattle.pg_call.specs.Requests.{Group, said_in, kind_of, groups_of, messages_of, farewell, CanBeSaid}
use Rattle.pg_call.specs.Items.{own_items, shown}
use Rattle.pg_call.specs.Drains.{before_readys, after_readys, drain_fails}
use Rattle.pg_call.specs.Hearing.{fails_of}
use Rattle.pg_call.specs.Calls.{Leaves, IsFine, owner_failed}
use Rattle.pg_call.proofs.DrainLaws.{after_nil}
use Rattle.pg_script.specs.declared.step.Call.{Call}
use Rattle.pg_script.specs.declared.step.Call.TheVariants as calls
use Rattle.pg_play.specs.Shown.{request_of, begins}
use Rattle.pg_play.proofs.PartLaws.{nth_part, own_open, own_closed, after_end}

-- ---- what each end has in common

pub record QueuedOwn (p : ℕ) (r : Request) (own : List Group) (hs : List Frame) : Type 0 where
  pub own_is : own ≡ groups_of r
  pub one : length own ≡ 1
  pub can : CanBeSaid r
  pub part : nth_part p hs ≡ after_readys p hs
  pub read : p ≤ count_by is_ready hs

-- the own response within the slice, where the group was queued
abbrev pub own_part : ℕ → List Group → List Frame → List Frame
own_part p [] hs = []
own_part p (g ∷ gs) hs = nth_part p hs

pub record Summary (start : Ledger) (r : Request) (said : List FrontendMessage) (hs : List Frame) (items : List CallItem) (ledger : Ledger) (copied : Bool) : Type 0 where
  pub own : List Group
  pub reply : List BackendMessage
  pub said_is : said ≡ drain_fails start.is_copy_failed (before_readys start.owed hs) ++ said_in own ++ fails_of copied
  pub counted : count_by is_ready hs + ledger.owed ≡ start.owed + length own
  pub failed_is : 0 < ledger.owed → ledger.is_copy_failed ≡ owner_failed start hs own copied
  pub queued : (own ≡ []) ⊎ QueuedOwn start.owed r own hs
  pub replied : own_part start.owed own hs ≡ map backend_frame reply
  pub reply_has_frames : AllByRecursion HasBackendFrame reply
  pub shows : IsPrefixOf items (shown (kind_of r) (own_items r reply))
  pub rests : ledger.owed ≡ 0 → after_readys (start.owed + length own) hs ≡ []

pub own_is_part : (p : ℕ) (own : List Group) (hs : List Frame) → length own ≡ 1 → own_part p own hs ≡ nth_part p hs
own_is_part p [] hs n = absurd (omega (arith, n))
own_is_part p (g ∷ gs) hs n = refl

own_part_none : (p : ℕ) (own : List Group) (hs : List Frame) → own ≡ [] → own_part p own hs ≡ []
own_part_none p own hs e = ap (λ (g : List Group). own_part p g hs) e

pub no_close : (d : ℕ) (call : Call) → farewell (kind_of (request_of d call)) ≡ []
no_close d (calls.Execute query) = refl
no_close d (calls.ExecuteMany query) = refl
no_close d (calls.Fetch query) = refl
no_close d (calls.FetchMany query) = refl
no_close d (calls.FetchAll query) = refl
no_close d (calls.FetchOptional query) = refl
no_close d (calls.FetchOne query) = refl
no_close d calls.Ping = refl
no_close d (calls.CopyOut query) = refl
no_close d (calls.Feed fed) = refl
no_close d calls.Flush = refl
no_close d (calls.Chain chain) = refl
no_close d calls.Begin = refl
no_close d (calls.BeginWith query) = refl
no_close zero calls.Commit = refl
no_close (suc left) calls.Commit = refl
no_close zero calls.Rollback = refl
no_close (suc left) calls.Rollback = refl
no_close d calls.StartRollback = refl
no_close d (calls.Release text) = refl
no_close d (calls.Describe extended) = refl
no_close d (calls.Run bound) = refl
no_close d (calls.Prepare preparation) = refl
no_close d calls.Clear = refl
no_close d (calls.Evict eviction) = refl
no_close d (calls.Look lookup) = refl
no_close d (calls.Fill filling) = refl
no_close d (calls.Tell prepared) = refl
no_close d (calls.CloseAll statements) = refl

pub closes_none : (d : ℕ) (call : Call) → kind_of (request_of d call) ≡ kinds.Close → ⊥
closes_none d (calls.Execute query) e = cc
closes_none d (calls.ExecuteMany query) e = cc
closes_none d (calls.Fetch query) e = cc
closes_none d (calls.FetchMany query) e = cc
closes_none d (calls.FetchAll query) e = cc
closes_none d (calls.FetchOptional query) e = cc
closes_none d (calls.FetchOne query) e = cc
closes_none d calls.Ping e = cc
closes_none d (calls.CopyOut query) e = cc
closes_none d (calls.Feed fed) e = cc
closes_none d calls.Flush e = cc
closes_none d (calls.Chain chain) e = cc
closes_none d calls.Begin e = cc
closes_none d (calls.BeginWith query) e = cc
closes_none zero calls.Commit e = cc
closes_none (suc left) calls.Commit e = cc
closes_none zero calls.Rollback e = cc
closes_none (suc left) calls.Rollback e = cc
closes_none d calls.StartRollback e = cc
closes_none d (calls.Release text) e = cc
closes_none d (calls.Describe extended) e = cc
closes_none d (calls.Run bound) e = cc
closes_none d (calls.Prepare preparation) e = cc
closes_none d calls.Clear e = cc
closes_none d (calls.Evict eviction) e = cc
closes_none d (calls.Look lookup) e = cc
closes_none d (calls.Fill filling) e = cc
closes_none d (calls.Tell prepared) e = cc
closes_none d (calls.CloseAll statements) e = cc

pub at_most_group : (d : ℕ) (call : Call) → (groups_of (request_of d call) ≡ []) ⊎ (length (groups_of (request_of d call)) ≡ 1)
at_most_group d (calls.Execute query) = inr refl
at_most_group d (calls.ExecuteMany query) = inr refl
at_most_group d (calls.Fetch query) = inr refl
at_most_group d (calls.FetchMany query) = inr refl
at_most_group d (calls.FetchAll query) = inr refl
at_most_group d (calls.FetchOptional query) = inr refl
at_most_group d (calls.FetchOne query) = inr refl
at_most_group d calls.Ping = inr refl
at_most_group d (calls.CopyOut query) = inr refl
at_most_group d (calls.Feed fed) = inr refl
at_most_group d calls.Flush = inl refl
at_most_group d (calls.Chain chain) = inl refl
at_most_group d calls.Begin = inr refl
at_most_group d (calls.BeginWith query) = inr refl
at_most_group zero calls.Commit = inl refl
at_most_group (suc left) calls.Commit = inr refl
at_most_group zero calls.Rollback = inl refl
at_most_group (suc left) calls.Rollback = inr refl
at_most_group d calls.StartRollback = inl refl
at_most_group d (calls.Release text) = inl refl
at_most_group d (calls.Describe extended) = inr refl
at_most_group d (calls.Run bound) = inr refl
at_most_group d (calls.Prepare preparation) = inl refl
at_most_group d calls.Clear = inl refl
at_most_group d (calls.Evict eviction) = inr refl
at_most_group d (calls.Look lookup) = inr refl
at_most_group d (calls.Fill filling) = inr refl
at_most_group d (calls.Tell prepared) = inl refl
at_most_group d (calls.CloseAll statements) = inr refl

-- what opens a transaction asks something
pub begins_one : (d : ℕ) (call : Call) → begins call ≡ true → groups_of (request_of d call) ≡ [] → ⊥
begins_one d calls.Begin b e = cc
begins_one d (calls.BeginWith query) b e = cc
begins_one d (calls.Execute query) b e = cc
begins_one d (calls.ExecuteMany query) b e = cc
begins_one d (calls.Fetch query) b e = cc
begins_one d (calls.FetchMany query) b e = cc
begins_one d (calls.FetchAll query) b e = cc
begins_one d (calls.FetchOptional query) b e = cc
begins_one d (calls.FetchOne query) b e = cc
begins_one d calls.Ping b e = cc
begins_one d (calls.CopyOut query) b e = cc
begins_one d (calls.Feed fed) b e = cc
begins_one d calls.Flush b e = cc
begins_one d (calls.Chain chain) b e = cc
begins_one d calls.Commit b e = cc
begins_one d calls.Rollback b e = cc
begins_one d calls.StartRollback b e = cc
begins_one d (calls.Release text) b e = cc
begins_one d (calls.Describe extended) b e = cc
begins_one d (calls.Run bound) b e = cc
begins_one d (calls.Prepare preparation) b e = cc
begins_one d calls.Clear b e = cc
begins_one d (calls.Evict eviction) b e = cc
begins_one d (calls.Look lookup) b e = cc
begins_one d (calls.Fill filling) b e = cc
begins_one d (calls.Tell prepared) b e = cc
begins_one d (calls.CloseAll statements) b e = cc

-- a call without groups shows nothing
flush_shows : (d : ℕ) (call : Call) (items : List CallItem) → groups_of (request_of d call) ≡ [] → shown (kind_of (request_of d call)) items ≡ []
flush_shows d calls.Flush [] e = refl
flush_shows d calls.Flush (i ∷ is) e = flush_shows d calls.Flush is e
flush_shows d (calls.Chain chain) [] e = refl
flush_shows d (calls.Chain chain) (i ∷ is) e = flush_shows d (calls.Chain chain) is e
flush_shows d calls.Begin items e = absurd cc
flush_shows d (calls.BeginWith query) items e = absurd cc
flush_shows zero calls.Commit items e = none_shown kinds.Flush items (λ x. refl)
flush_shows (suc left) calls.Commit items e = absurd cc
flush_shows zero calls.Rollback items e = none_shown kinds.Flush items (λ x. refl)
flush_shows (suc left) calls.Rollback items e = absurd cc
flush_shows d calls.StartRollback items e = none_shown kinds.Flush items (λ x. refl)
flush_shows d (calls.Release text) items e = none_shown kinds.Flush items (λ x. refl)
flush_shows d (calls.Describe extended) items e = absurd cc
flush_shows d (calls.Run bound) items e = absurd cc
flush_shows d (calls.Prepare preparation) items e = none_shown kinds.Flush items (λ x. refl)
flush_shows d calls.Clear items e = none_shown kinds.Flush items (λ x. refl)
flush_shows d (calls.Evict eviction) items e = absurd cc
flush_shows d (calls.Look lookup) items e = absurd cc
flush_shows d (calls.Fill filling) items e = absurd cc
flush_shows d (calls.Tell prepared) items e = none_shown kinds.Prepare items (λ x. refl)
flush_shows d (calls.CloseAll statements) items e = absurd cc
flush_shows d calls.Ping items e = absurd cc
flush_shows d (calls.CopyOut query) items e = absurd cc
flush_shows d (calls.Feed fed) items e = absurd cc
flush_shows d (calls.Execute query) items e = absurd cc
flush_shows d (calls.ExecuteMany query) items e = absurd cc
flush_shows d (calls.Fetch query) items e = absurd cc
flush_shows d (calls.FetchMany query) items e = absurd cc
flush_shows d (calls.FetchAll query) items e = absurd cc
flush_shows d (calls.FetchOptional query) items e = absurd cc
flush_shows d (calls.FetchOne query) items e = absurd cc

-- nothing is said by way of farewell
no_bye : (d : ℕ) (call : Call) (bye : List FrontendMessage) → (bye ≡ []) ⊎ ((bye ≡ farewell (kind_of (request_of d call))) × CanBeSaid (request_of d call)) → bye ≡ []
no_bye d call bye (inl e) = e
no_bye d call bye (inr e) = e.0 ∙ no_close d call

said_by : (d : ℕ) (call : Call) (said fails own bye copied : List FrontendMessage) → bye ≡ [] → said ≡ fails ++ (own ++ bye) ++ copied → said ≡ fails ++ own ++ copied
said_by d call said fails own bye copied e h = h ∙ ap (λ (b : List FrontendMessage). fails ++ (own ++ b) ++ copied) e ∙ ap (λ (b : List FrontendMessage). fails ++ b ++ copied) (append-nil own)

leaves_none : (start : Ledger) (d : ℕ) (call : Call) (said : List FrontendMessage) (hs : List Frame) (items : List CallItem) (ledger : Ledger) (copied : Bool) (l : Leaves start (request_of d call) said hs items ledger copied) → l.own ≡ [] → Summary start (request_of d call) said hs items ledger copied
leaves_none start d call said hs items ledger copied l e = record {
  own = [];
  reply = [];
  said_is = rw e at (said_by d call said (drain_fails start.is_copy_failed (before_readys start.owed hs)) (said_in l.own) l.bye (fails_of copied) (no_bye d call l.bye l.farewells) l.said_is);
  counted = rw e at l.counted;
  failed_is = λ o. rw e at l.failed_is;
  queued = inl refl;
  replied = refl;
  reply_has_frames = tt;
  shows = rw (l.idle e) (shown (kind_of (request_of d call)) [], refl);
  rests = λ z. let n : start.owed + 0 ≡ start.owed = omega arith in ap (λ (k : ℕ). after_readys k hs) n ∙ l.rests z;
}

leaves_one : (start : Ledger) (d : ℕ) (call : Call) (said : List FrontendMessage) (hs : List Frame) (items : List CallItem) (ledger : Ledger) (copied : Bool) (l : Leaves start (request_of d call) said hs items ledger copied)
    → l.own ≡ groups_of (request_of d call) → length l.own ≡ 1 → CanBeSaid (request_of d call) → count_by is_ready hs ≡ start.owed → Summary start (request_of d call) said hs items ledger copied
leaves_one start d call said hs items ledger copied l e n k c =
    let part = own_open hs start.owed c in
    record {
      own = l.own;
      reply = l.reply;
      said_is = said_by d call said (drain_fails start.is_copy_failed (before_readys start.owed hs)) (said_in l.own) l.bye (fails_of copied) (no_bye d call l.bye l.farewells) l.said_is;
      counted = l.counted;
      failed_is = λ o. l.failed_is;
      queued = inr (record { own_is = e; one = n; can = k; part = part; read = omega (arith, c) });
      replied = own_is_part start.owed l.own hs n ∙ part ∙ l.replied;
      reply_has_frames = l.reply_has_frames;
      shows = l.shows;
      rests = λ z. absurd (omega (arith, z, l.counted, n, c));
    }

pub leaves_summary : (start : Ledger) (d : ℕ) (call : Call) (said : List FrontendMessage) (hs : List Frame) (items : List CallItem) (ledger : Ledger) (copied : Bool) → Leaves start (request_of d call) said hs items ledger copied → Summary start (request_of d call) said hs items ledger copied
leaves_summary start d call said hs items ledger copied l = elim l.queued [
  | inl none ↦ leaves_none start d call said hs items ledger copied l none
  | inr q ↦ leaves_one start d call said hs items ledger copied l q.0 q.1 q.2 q.3
]

-- ---- a call that came to its end

fine_rests : (start : Ledger) (r : Request) (said : List FrontendMessage) (hs : List Frame) (items : List CallItem) (ledger : Ledger) → IsFine start r said hs items ledger → after_readys (start.owed + length (groups_of r)) hs ≡ []
fine_rests start r said hs items ledger f = elim f.ends [
  | inl e ↦ ap (after_readys (start.owed + length (groups_of r))) e ∙ after_nil (start.owed + length (groups_of r))
  | inr e ↦ subst (λ (h : List Frame). after_readys (start.owed + length (groups_of r)) h ≡ []) (sym e.2) (after_end e.0 e.1 (start.owed + length (groups_of r)) e.3 (sym (ap (λ (h : List Frame). count_by is_ready h) e.2) ∙ f.counted))
]

fine_said : (start : Ledger) (d : ℕ) (call : Call) (said : List FrontendMessage) (hs : List Frame) → said ≡ drain_fails start.is_copy_failed (before_readys start.owed hs) ++ messages_of (request_of d call) → said ≡ drain_fails start.is_copy_failed (before_readys start.owed hs) ++ said_in (groups_of (request_of d call)) ++ []
fine_said start d call said hs h = h ∙ ap (λ (b : List FrontendMessage). drain_fails start.is_copy_failed (before_readys start.owed hs) ++ (said_in (groups_of (request_of d call)) ++ b)) (no_close d call) ∙ sym (append_assoc (drain_fails start.is_copy_failed (before_readys start.owed hs)) (said_in (groups_of (request_of d call))) [])

fine_one : (start : Ledger) (d : ℕ) (call : Call) (said : List FrontendMessage) (hs : List Frame) (items : List CallItem) (ledger : Ledger) → length (groups_of (request_of d call)) ≡ 1 → (f : IsFine start (request_of d call) said hs items ledger) → (s : Summary start (request_of d call) said hs items ledger false) × (s.own ≡ groups_of (request_of d call)) × (own_items (request_of d call) s.reply ≡ own_items (request_of d call) f.reply)
fine_one start d call said hs items ledger n f =
    let part : nth_part start.owed hs ≡ after_readys start.owed hs = elim f.ends [
      | inl e ↦ absurd (omega (arith, f.counted, n, ap (λ (h : List Frame). count_by is_ready h) e))
      | inr e ↦ subst (λ (h : List Frame). nth_part start.owed h ≡ after_readys start.owed h) (sym e.2) (own_closed e.0 e.1 start.owed (omega (arith, f.counted, n, ap (λ (h : List Frame). count_by is_ready h) e.2)) e.3)
    ] in (
      record {
        own = groups_of (request_of d call);
        reply = f.reply;
        said_is = fine_said start d call said hs f.said_is;
        counted = omega (arith, f.counted, f.owes);
        failed_is = λ o. absurd (omega (arith, o, f.owes));
        queued = inr (record { own_is = refl; one = n; can = f.can; part = part; read = omega (arith, f.counted, n) });
        replied = own_is_part start.owed (groups_of (request_of d call)) hs n ∙ part ∙ f.replied;
        reply_has_frames = f.reply_has_frames;
        shows = rw f.items_are ([], append-nil _);
        rests = λ z. fine_rests start (request_of d call) said hs items ledger f;
      },
      refl,
      refl,
    )

-- behind a flush nothing is left
none_carried : (start : Ledger) (r : Request) (hs : List Frame) (reply : List BackendMessage) → after_readys start.owed hs ≡ [] → after_readys start.owed hs ≡ map backend_frame reply → own_items r reply ≡ []
none_carried start r hs [] e h = refl
none_carried start r hs (m ∷ ms) e h = let x = sym e ∙ h in absurd cc

fine_none : (start : Ledger) (d : ℕ) (call : Call) (said : List FrontendMessage) (hs : List Frame) (items : List CallItem) (ledger : Ledger) → groups_of (request_of d call) ≡ [] → (f : IsFine start (request_of d call) said hs items ledger) → (s : Summary start (request_of d call) said hs items ledger false) × (s.own ≡ groups_of (request_of d call)) × (own_items (request_of d call) s.reply ≡ own_items (request_of d call) f.reply)
fine_none start d call said hs items ledger n f =
    let zero_groups : length (groups_of (request_of d call)) ≡ 0 = ap (λ (g : List Group). length g) n in
    let rests = fine_rests start (request_of d call) said hs items ledger f in
    let behind : after_readys start.owed hs ≡ [] = subst (λ (k : ℕ). after_readys k hs ≡ []) (omega (arith, zero_groups)) rests in (
      record {
        own = [];
        reply = [];
        said_is = subst (λ (g : List Group). said ≡ drain_fails start.is_copy_failed (before_readys start.owed hs) ++ said_in g ++ []) n (fine_said start d call said hs f.said_is);
        counted = omega (arith, f.counted, f.owes, zero_groups);
        failed_is = λ o. absurd (omega (arith, o, f.owes));
        queued = inl refl;
        replied = refl;
        reply_has_frames = tt;
        shows = rw (f.items_are ∙ flush_shows d call (own_items (request_of d call) f.reply) n) (shown (kind_of (request_of d call)) [], refl);
        rests = λ z. subst (λ (k : ℕ). after_readys k hs ≡ []) (omega (arith, zero_groups)) rests;
      },
      sym n,
      sym (none_carried start (request_of d call) hs f.reply behind f.replied),
    )

-- it queued all of its groups, and its response has the items that it counted
pub fine_summary : (start : Ledger) (d : ℕ) (call : Call) (said : List FrontendMessage) (hs : List Frame) (items : List CallItem) (ledger : Ledger) (f : IsFine start (request_of d call) said hs items ledger) → (s : Summary start (request_of d call) said hs items ledger false) × (s.own ≡ groups_of (request_of d call)) × (own_items (request_of d call) s.reply ≡ own_items (request_of d call) f.reply)
fine_summary start d call said hs items ledger f = elim (at_most_group d call) [
  | inl n ↦ fine_none start d call said hs items ledger n f
  | inr n ↦ fine_one start d call said hs items ledger n f
]
