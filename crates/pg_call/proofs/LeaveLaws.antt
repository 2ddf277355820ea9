-- What a call leaves wherever it stands, and at the end of a flush and of a close.
use Rattle.std.proofs.Common.{◌≡◌, ◌≢◌, ◌⊎◌, inl, inr, ℕ, zero, suc, ◌+◌, Bool, true, false, not, ◌&&◌, cond, List, [], ◌∷◌, ◌++◌, length, refl, sym, ap, ◌∙◌, arith, append-nil, Ok, Some, None, subst}
use Rattle.pg_wire.specs.declared.status.TransactionStatus.TheVariants as statuses
use Rattle.std.specs.List.{count_by}
use Rattle.pg_wire.specs.Frame.{Frame}
use Rattle.pg_wire.specs.Parts.{is_ready}
use Rattle.pg_wire.specs.Frontend.{FrontendMessage}
use Rattle.pg_call.specs.declared.kind.Kind.{Kind}
use Rattle.pg_call.specs.declared.kind.Kind.TheVariants as kinds
use Rattle.pg_call.specs.declared.request.Request.{Request}
use Rattle.pg_call.specs.declared.request.Request.TheVariants as requests
use Rattle.pg_call.specs.declared.answer.CallItem.{CallItem}
use Rattle.pg_call.specs.declared.answer.CallAnswer.TheVariants as answers
use Rattle.pg_call.specs.declared.judging.Part.{Part}
use Rattle.pg_call.specs.declared.ledger.Ledger.{Ledger}
use Rattle.pg_call.specs.declared.waiting.Waiting.{Waiting}
use Rattle.pg_call.specs.declared.calling.Call.{Call}
use Rattle.pg_call.specs.declared.calling.Call.TheVariants as calls
use Rattle.pg_call.specs.declared.calling.Beat.TheVariants as beats
use Rattle.pg_call.specs.Requests.{Group, said_in, kind_of, groups_of, messages_of, farewell, is_flush, is_close, heading_of, CanBeSaid, rest_of}
use Rattle.pg_call.specs.declared.tally.Tally.{Tally}
use Rattle.pg_call.specs.Items.{items_of, shown, empty_tally, tally_of, keeps_all, keeps_first}
use Rattle.pg_call.specs.Hearing.{fresh_reply, sent_rest}
use Rattle.pg_call.specs.declared.after.Rest.{Rest}
use Rattle.pg_call.specs.Drains.{is_error, before_readys, after_readys, drain_fails}
use Rattle.pg_call.specs.Calls.{answer_by, CallIs, IsDraining, IsClosing, Leaves, IsFine, EndsByReady, CallEnds, owes_own}
use Rattle.pg_call.proofs.DrainLaws.{count-cons, after_nil, before_nil}
use Rattle.pg_call.proofs.CallLaws.{leaves_draining, leaves_own, no_groups_close}

any_false : (b : Bool) → b ≡ b && not false
any_false true = refl
any_false false = refl

-- one that has heard nothing yet
pub draining_none : (start : Ledger) → IsDraining start [] [] [] start start.is_copy_failed
draining_none start = record {
  said_is = refl;
  items_are = refl;
  counted = omega arith;
  owner = any_false start.is_copy_failed;
  failed_is = refl;
  well = refl;
  none = after_nil start.owed;
  all = before_nil start.owed;
}

asked_said : (start : Ledger) → [] ≡ drain_fails start.is_copy_failed (before_readys start.owed []) ++ ([] ++ []) ++ []
asked_said start = let none = before_nil start.owed in rw none refl

-- one that was not polled
leaves_asked : (start : Ledger) (r : Request) → Leaves start r [] [] [] start false
leaves_asked start r = record {
  own = [];
  bye = [];
  reply = [];
  said_is = asked_said start;
  counted = omega arith;
  failed_is = any_false start.is_copy_failed;
  queued = inl refl;
  farewells = inl refl;
  replied = after_nil start.owed;
  reply_has_frames = tt;
  shows = (shown (kind_of r) [], refl);
  idle = λ e. refl;
  rests = λ e. after_nil start.owed;
}

-- ---- what was drained ends with ReadyForQuery

ends_behind : (g : Frame) (fs : List Frame) → EndsByReady fs → (is_ready g ≡ true) ⊎ (fs ≢ []) → EndsByReady (g ∷ fs)
ends_behind g fs (inr h) k = inr (g ∷ h.0, h.1, ap (λ (t : List Frame). g ∷ t) h.2, h.3)
ends_behind g fs (inl h) (inl z) = inr ([], g, ap (λ (t : List Frame). g ∷ t) h, z)
ends_behind g fs (inl h) (inr n) = absurd (n h)

some_ready : (fs : List Frame) (n : ℕ) → count_by is_ready fs ≡ suc n → fs ≢ []
some_ready [] n c = absurd (omega (arith, c))
some_ready (x ∷ xs) n c = λ e. absurd cc

drained_by : (g : Frame) (fs : List Frame) (n : ℕ) (b : Bool) → is_ready g ≡ b → ((m : ℕ) → count_by is_ready fs ≡ m → after_readys m fs ≡ [] → EndsByReady fs)
    → cond b 1 0 + count_by is_ready fs ≡ suc n → after_readys (cond b n (suc n)) fs ≡ [] → EndsByReady (g ∷ fs)
drained_by g fs n true z f c e = ends_behind g fs (f n (omega (arith, c)) e) (inl z)
drained_by g fs n false z f c e = ends_behind g fs (f (suc n) (omega (arith, c)) e) (inr (some_ready fs n (omega (arith, c))))

pub drained_ends : (hs : List Frame) (p : ℕ) → count_by is_ready hs ≡ p → after_readys p hs ≡ [] → EndsByReady hs
drained_ends hs zero c e = inl e
drained_ends [] (suc n) c e = inl refl
drained_ends (g ∷ fs) (suc n) c e = drained_by g fs n (is_ready g) refl (λ m x y. drained_ends fs m x y) (omega (arith, c, count-cons is_ready g fs)) e

-- ---- wherever a call stands

closing_said : (start : Ledger) (r : Request) (said : List FrontendMessage) (hs : List Frame) (items : List CallItem) (ledger : Ledger) → kind_of r ≡ kinds.Close → (c : IsClosing start said hs items ledger)
    → said ≡ drain_fails start.is_copy_failed (before_readys start.owed hs) ++ farewell (kind_of r)
closing_said start r said hs items ledger k c =
    c.said_is
    ∙ ap (λ (t : List FrontendMessage). t ++ farewell kinds.Close) (c.draining.said_is ∙ ap (drain_fails start.is_copy_failed) (sym c.draining.all))
    ∙ ap (λ (x : Kind). drain_fails start.is_copy_failed (before_readys start.owed hs) ++ farewell x) (sym k)

leaves_closing : (start : Ledger) (r : Request) (said : List FrontendMessage) (hs : List Frame) (items : List CallItem) (ledger : Ledger) → kind_of r ≡ kinds.Close → CanBeSaid r → IsClosing start said hs items ledger → Leaves start r said hs items ledger false
leaves_closing start r said hs items ledger k can c = record {
  own = [];
  bye = farewell (kind_of r);
  reply = [];
  said_is = closing_said start r said hs items ledger k c ∙ sym (append-nil (drain_fails start.is_copy_failed (before_readys start.owed hs) ++ farewell (kind_of r)));
  counted = omega (arith, c.draining.counted);
  failed_is = c.draining.owner;
  queued = inl refl;
  farewells = inr (refl, can);
  replied = c.draining.none;
  reply_has_frames = tt;
  shows = rw c.draining.items_are (shown (kind_of r) [], refl);
  idle = λ e. c.draining.items_are;
  rests = λ e. c.draining.none;
}

pub leaves_call : (start : Ledger) (r : Request) (said : List FrontendMessage) (hs : List Frame) (items : List CallItem) (ledger : Ledger) (call : Call) → CallIs start r said hs items ledger call → Leaves start r said hs items ledger false
leaves_call start r said hs items ledger (calls.Asked asked) i = rw (i.1, i.2, i.3, i.4) (leaves_asked start r)
leaves_call start r said hs items ledger (calls.Waiting w) i = leaves_draining start r said hs items ledger w.is_copy_failed i.3
leaves_call start r said hs items ledger (calls.Own reply) i =
    rw (i.0, ← append-nil said) (leaves_own start r said hs hs items reply i.2 false i.2.own i.1 i.2.counted refl i.2.own_is i.2.own_have_frames [] (sym (append-nil (items_of (heading_of r) i.2.own))))
leaves_call start r said hs items ledger calls.Closing i = leaves_closing start r said hs items ledger i.0 i.1 i.2
leaves_call start r said hs items ledger calls.Idle i = absurd i

-- it has heard no error
pub call_well : (start : Ledger) (r : Request) (said : List FrontendMessage) (hs : List Frame) (items : List CallItem) (ledger : Ledger) (call : Call) → CallIs start r said hs items ledger call → count_by is_error hs ≡ 0
call_well start r said hs items ledger (calls.Asked asked) i = rw i.3 refl
call_well start r said hs items ledger (calls.Waiting w) i = i.3.well
call_well start r said hs items ledger (calls.Own reply) i = i.2.well
call_well start r said hs items ledger calls.Closing i = i.2.draining.well
call_well start r said hs items ledger calls.Idle i = absurd i

-- ---- the end of a flush and of a close

no_groups_flush : (r : Request) → is_flush (kind_of r) ≡ true → (groups_of r ≡ []) × (messages_of r ≡ [])
no_groups_flush requests.Flush e = (refl, refl)
no_groups_flush (requests.Prepare prepared) e = (refl, refl)
no_groups_flush (requests.Look lookup) e = absurd cc
no_groups_flush (requests.Fill filling) e = absurd cc
no_groups_flush (requests.Evict eviction) e = absurd cc
no_groups_flush (requests.Clear statements) e = absurd cc
no_groups_flush requests.Ping e = absurd cc
no_groups_flush (requests.Describe extended) e = absurd cc
no_groups_flush (requests.Run bound) e = absurd cc
no_groups_flush requests.Close e = absurd cc
no_groups_flush (requests.Execute query) e = absurd cc
no_groups_flush (requests.ExecuteMany query) e = absurd cc
no_groups_flush (requests.Fetch query) e = absurd cc
no_groups_flush (requests.FetchMany query) e = absurd cc
no_groups_flush (requests.FetchAll query) e = absurd cc
no_groups_flush (requests.FetchOptional query) e = absurd cc
no_groups_flush (requests.FetchOne query) e = absurd cc
no_groups_flush (requests.Begin depth) e = absurd cc
no_groups_flush (requests.BeginWith query) e = absurd cc
no_groups_flush (requests.CopyOut query) e = absurd cc
no_groups_flush (requests.CopyIn feed) e = absurd cc
no_groups_flush (requests.Commit left) e = absurd cc
no_groups_flush (requests.Rollback left) e = absurd cc

-- what it answers: the statement that it tells of, where there is one
sent_by : (r : Request) → is_flush (kind_of r) ≡ true → answer_by r [] statuses.Idle ≡ beats.Ends (Ok (sent_rest (rest_of r)))
sent_by requests.Flush e = refl
sent_by (requests.Prepare prepared) e = refl
sent_by _ e = absurd cc

-- a close is told by its kind

close_alone : (r : Request) → kind_of r ≡ kinds.Close → requests.Close ≡ r
close_alone requests.Close e = refl
close_alone _ e = absurd cc

fine_drained : (start : Ledger) (r : Request) (said drained : List FrontendMessage) (hs : List Frame) (items : List CallItem) (ledger : Ledger) (failed : Bool) → CanBeSaid r → groups_of r ≡ [] → ledger.owed ≡ 0 → said ≡ drained ++ messages_of r → IsDraining start drained hs items ledger failed
    → IsFine start r said hs items ledger
fine_drained start r said drained hs items ledger failed can none owes s d = record {
  reply = [];
  status = statuses.Idle;
  can = can;
  said_is = s ∙ ap (λ (t : List FrontendMessage). t ++ messages_of r) (d.said_is ∙ ap (drain_fails start.is_copy_failed) (sym d.all));
  owes = owes;
  counted = omega (arith, d.counted, owes, ap (λ (g : List Group). length g) none);
  well = d.well;
  replied = d.none;
  reply_has_frames = tt;
  items_are = d.items_are;
  ends = drained_ends hs start.owed (omega (arith, d.counted, owes)) d.none;
  last = inl none;
}

pub flush_fine : (start : Ledger) (r : Request) (said : List FrontendMessage) (hs : List Frame) (items : List CallItem) (ledger : Ledger) (w : Waiting) → is_flush w.kind ≡ true → ledger.owed ≡ 0 → CallIs start r said hs items ledger (calls.Waiting w)
    → CallEnds start r said hs items ledger (Ok (sent_rest w.rest))
unfolding fine_drained
flush_fine start r said hs items ledger w f z i =
    let g = no_groups_flush r (rw i.0 at f) in
    (fine_drained start r said said hs items ledger w.is_copy_failed i.2 g.0 z (sym (append-nil said) ∙ ap (λ (t : List FrontendMessage). said ++ t) (sym g.1)) i.3, sent_by r (rw i.0 at f) ∙ ap (λ (t : Rest). beats.Ends (Ok (sent_rest t))) (sym i.5))

pub closing_fine : (start : Ledger) (r : Request) (said : List FrontendMessage) (hs : List Frame) (items : List CallItem) (ledger : Ledger) → CallIs start r said hs items ledger calls.Closing → CallEnds start r said hs items ledger (Ok answers.Unit)
unfolding fine_drained
closing_fine start r said hs items ledger i =
    let g = no_groups_close r i.0 in
    let c = i.2 in
    (fine_drained start r said c.drained hs items ledger c.failed i.1 g.0 c.owes (c.said_is ∙ ap (λ (t : List FrontendMessage). c.drained ++ t) (sym g.1)) c.draining, subst (λ (x : Request). answer_by x [] statuses.Idle ≡ beats.Ends (Ok answers.Unit)) (close_alone r i.0) refl)

-- ---- its own reply begins

one_of : (r : Request) → is_flush (kind_of r) ≡ false → is_close (kind_of r) ≡ false → (length (groups_of r) ≡ 1) × (said_in (groups_of r) ≡ messages_of r)
one_of (requests.Execute query) f c = (refl, refl)
one_of (requests.ExecuteMany query) f c = (refl, refl)
one_of (requests.Fetch query) f c = (refl, refl)
one_of (requests.FetchMany query) f c = (refl, refl)
one_of (requests.FetchAll query) f c = (refl, refl)
one_of (requests.FetchOptional query) f c = (refl, refl)
one_of (requests.FetchOne query) f c = (refl, refl)
one_of (requests.Begin depth) f c = (refl, refl)
one_of (requests.BeginWith query) f c = (refl, refl)
one_of (requests.CopyOut query) f c = (refl, refl)
one_of (requests.CopyIn feed) f c = (refl, sym (append-nil (said_in (groups_of (requests.CopyIn feed)))))
one_of (requests.Commit left) f c = (refl, refl)
one_of (requests.Rollback left) f c = (refl, refl)
one_of (requests.Describe extended) f c = (refl, refl)
one_of (requests.Run bound) f c = (refl, sym (append-nil (said_in (groups_of (requests.Run bound)))))
one_of (requests.Look lookup) f c = (refl, refl)
one_of (requests.Fill filling) f c = (refl, refl)
one_of (requests.Evict eviction) f c = (refl, refl)
one_of (requests.Clear statements) f c = (refl, sym (append-nil (said_in (groups_of (requests.Clear statements)))))
one_of (requests.Prepare prepared) f c = absurd cc
one_of requests.Ping f c = (refl, refl)
one_of requests.Flush f c = absurd cc
one_of requests.Close f c = absurd cc

close_kind : (r : Request) → is_close (kind_of r) ≡ true → kind_of r ≡ kinds.Close
close_kind requests.Close e = refl
close_kind requests.Flush e = absurd cc
close_kind (requests.Look lookup) e = absurd cc
close_kind (requests.Fill filling) e = absurd cc
close_kind (requests.Evict eviction) e = absurd cc
close_kind (requests.Clear statements) e = absurd cc
close_kind (requests.Prepare prepared) e = absurd cc
close_kind requests.Ping e = absurd cc
close_kind (requests.Describe extended) e = absurd cc
close_kind (requests.Run bound) e = absurd cc
close_kind (requests.Execute query) e = absurd cc
close_kind (requests.ExecuteMany query) e = absurd cc
close_kind (requests.Fetch query) e = absurd cc
close_kind (requests.FetchMany query) e = absurd cc
close_kind (requests.FetchAll query) e = absurd cc
close_kind (requests.FetchOptional query) e = absurd cc
close_kind (requests.FetchOne query) e = absurd cc
close_kind (requests.Begin depth) e = absurd cc
close_kind (requests.BeginWith query) e = absurd cc
close_kind (requests.CopyOut query) e = absurd cc
close_kind (requests.CopyIn feed) e = absurd cc
close_kind (requests.Commit left) e = absurd cc
close_kind (requests.Rollback left) e = absurd cc

abbrev tally_by : Bool → Bool → Tally
tally_by a b = record { total = 0; rows = cond a [] []; first = cond b None None }

tally_nil : (kind : Kind) → empty_tally ≡ tally_of kind []
tally_nil kind = by (keeps_all kind) (keeps_first kind)
  where
    by : (a b : Bool) → empty_tally ≡ tally_by a b
    by true true = refl
    by true false = refl
    by false true = refl
    by false false = refl

-- the frames of a call that owes nothing more are queued
pub replying_from : (start : Ledger) (r : Request) (said : List FrontendMessage) (hs : List Frame) (items : List CallItem) (ledger : Ledger) (w : Waiting) → is_flush w.kind ≡ false → is_close w.kind ≡ false → ledger.owed ≡ 0
    → CallIs start r said hs items ledger (calls.Waiting w) → CallIs start r (said ++ messages_of r) hs items owes_own (calls.Own (fresh_reply w))
replying_from start r said hs items ledger w f c z i =
    let d = i.3 in
    let one = one_of r (rw i.0 at f) (rw i.0 at c) in (
      refl,
      i.2,
      record {
        own = [];
        kind_is = i.0;
        one = one.0;
        said_is = ap (λ (t : List FrontendMessage). t ++ messages_of r) (d.said_is ∙ ap (drain_fails start.is_copy_failed) (sym d.all)) ∙ ap (λ (t : List FrontendMessage). drain_fails start.is_copy_failed (before_readys start.owed hs) ++ t) (sym one.1);
        counted = omega (arith, d.counted, z);
        well = d.well;
        own_is = d.none;
        own_have_frames = tt;
        so_far = ap (λ (p : Part). Some p) (sym i.4);
        rest_is = i.5;
        heading_is = i.6;
        parameters_are = refl;
        tally_is = tally_nil w.kind;
        items_are = d.items_are;
      },
    )

pub closing_from : (start : Ledger) (r : Request) (said : List FrontendMessage) (hs : List Frame) (items : List CallItem) (ledger : Ledger) (w : Waiting) → is_close w.kind ≡ true → ledger.owed ≡ 0
    → CallIs start r said hs items ledger (calls.Waiting w) → CallIs start r (said ++ messages_of r) hs items ledger calls.Closing
closing_from start r said hs items ledger w c z i =
    let k = close_kind r (rw i.0 at c) in
    let g = no_groups_close r k in
    (k, i.2, record { drained = said; failed = w.is_copy_failed; draining = i.3; said_is = ap (λ (t : List FrontendMessage). said ++ t) g.1; owes = z })
