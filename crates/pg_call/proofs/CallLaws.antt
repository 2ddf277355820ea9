-- One more message of a call.
use Rattle.std.proofs.Common.{◌≡◌, ◌≢◌, inl, inr, ℕ, ◌+◌, ◌-◌, ◌<◌, Bool, true, false, not, ◌&&◌, ◌||◌, cond, ◌==◌, List, [], ◌∷◌, ◌++◌, length, map, filter, refl, sym, ap, ◌∙◌, subst, arith, append-nil, Result, Ok, Err, IfOk, IfErr, OnOk, Option, Some, None, option_and_then}
use Rattle.pg_wire.specs.declared.status.TransactionStatus.TheVariants as statuses
use Rattle.std.specs.List.{AllByRecursion, count_by, list_any}
use Rattle.std.proofs.lemmas.Bool.{eqb-true}
use Rattle.std.proofs.lemmas.List.{map-append}
use Rattle.std.proofs.lemmas.List.Elements.{filter-append}
use Rattle.pg_wire.specs.declared.error.Error.{Error}
use Rattle.pg_wire.specs.declared.error.Error.TheVariants as errors
use Rattle.pg_wire.specs.declared.error.ProtocolFault.TheVariants as protocol
use Rattle.pg_wire.specs.declared.error.ServerFault.TheVariants as faults
use Rattle.pg_wire.specs.declared.fields.ErrorField.{ErrorField}
use Rattle.pg_wire.specs.Frame.{Frame}
use Rattle.pg_wire.specs.Parts.{is_ready}
use Rattle.pg_wire.specs.Frontend.{FrontendMessage}
use Rattle.pg_wire.specs.Backend.{BackendMessage, backend_frame, HasBackendFrame, ErrorResponse, ReadyForQuery}
use Rattle.pg_wire.specs.Decoding.{IsRefused}
use Rattle.pg_wire.specs.declared.status.TransactionStatus.{TransactionStatus}
use Rattle.pg_rows.specs.declared.heading.Heading.{Heading}
use Rattle.pg_rows.specs.Rows.{RowSeen}
use Rattle.pg_columns.specs.declared.column.PgColumn.{PgColumn}
use Rattle.pg_columns.specs.Told.{columns_of}
use Rattle.pg_call.specs.declared.kind.How.TheVariants as hows
use Rattle.pg_call.specs.declared.kind.Kind.{Kind}
use Rattle.pg_call.specs.declared.kind.Kind.TheVariants as kinds
use Rattle.pg_call.specs.declared.tally.Tally.{Tally}
use Rattle.pg_call.specs.declared.after.Rest.{Rest}
use Rattle.pg_call.specs.declared.after.Rest.TheVariants as rests
use Rattle.pg_exchanges.specs.Answering.{described}
use Rattle.pg_call.specs.declared.request.Request.{Request}
use Rattle.pg_call.specs.declared.request.Request.TheVariants as requests
use Rattle.pg_call.specs.declared.answer.CallItem.{CallItem}
use Rattle.pg_call.specs.declared.answer.CallItem.TheVariants.{Row}
use Rattle.pg_call.specs.declared.answer.CallAnswer.{CallAnswer}
use Rattle.pg_call.specs.declared.judging.Part.{Part}
use Rattle.pg_call.specs.declared.judging.Part.TheVariants as parts
use Rattle.pg_call.specs.declared.ledger.Ledger.{Ledger}
use Rattle.pg_call.specs.declared.reply.Reply.{Reply}
use Rattle.pg_call.specs.declared.reply.Heard.{Heard}
use Rattle.pg_call.specs.declared.reply.Heard.TheVariants as heards
use Rattle.pg_call.specs.declared.waiting.Waiting.{Waiting}
use Rattle.pg_call.specs.declared.calling.Call.{Call}
use Rattle.pg_call.specs.declared.calling.Call.TheVariants as calls
use Rattle.pg_call.specs.declared.calling.Beat.{Beat}
use Rattle.pg_call.specs.declared.calling.Beat.TheVariants as beats
use Rattle.pg_call.specs.declared.calling.Taken.{Taken}
use Rattle.pg_call.specs.declared.running.Running.{Running}
use Rattle.pg_call.specs.Requests.{Group, said_in, kind_of, groups_of, messages_of, farewell, heading_of, rest_of, told, CanBeSaid}
use Rattle.pg_call.specs.Items.{news_of, heading_by, heading_after, item_by, items_of, yields, shown, tally_of, answer_to, finished, one_row, begun, parameters_after, parameters_by}
use Rattle.pg_call.specs.Replies.{awaits_first, goes_on, may_close, part_after, may_stray, MayNotCome, IsFault}
use Rattle.pg_call.specs.Drains.{is_error, is_copy_in, before_readys, after_readys, failed_behind, fails_for, drain_fails}
use Rattle.pg_call.specs.Hearing.{framed, added_all, gone_on, HearsMessage, Hears, marked, ledger_behind, fails_of, Closes, ClosesBy, DrainsBy, Drains, Follows, IsReplied, handed_on, is_look, just, looks_up}
use Rattle.pg_call.specs.Calls.{answer_by, IsDraining, IsReplying, owes_own, owes_none, CallIs, owner_failed, Leaves, IsFine, EndsFine, CallEnds, IsFrontFault, CallTakes, EndsBy, PassesOf, PassesRowOf, ShowsRowOf, StaysIn, TakesMessage, RefusesMessage}
use Rattle.pg_call.proofs.DrainLaws.{count-push, count-same, after_below, after_from, before_below, before_from, failed-push, fails-push, still_failed, no_more_failed}
use Rattle.pg_call.proofs.ItemLaws.{items-push, heading-push, tally-more, parameters-push}
use Rattle.pg_wire.specs.Refusals.{BeginsCopyResponse}
use Rattle.pg_call.proofs.RefusedLaws.{Describes, describes_after, described_columns, group_refused, group_copies, opens_for}
use Rattle.pg_wire.proofs.Each.{each_end}
use Rattle.pg_wire.proofs.Unique.{backend_frame_unique}

-- ---- a reply that no one waits for

ready_behind : (start : Ledger) (hs : List Frame) (ledger : Ledger) (f : Frame) (b : Bool) → is_ready f ≡ b → 0 < ledger.owed → count_by is_ready hs + ledger.owed ≡ start.owed
    → count_by is_ready (hs ++ f ∷ []) + (cond b (record { owed = ledger.owed - 1; is_copy_failed = false }) ledger).owed ≡ start.owed
ready_behind start hs ledger f true z some c = let n = rw z at (count-push is_ready hs f) in omega (arith, n, some, c)
ready_behind start hs ledger f false z some c = let n = rw z at (count-push is_ready hs f) in omega (arith, n, some, c)

owner_behind : (start : Ledger) (hs : List Frame) (ledger : Ledger) (f : Frame) (b : Bool) → is_ready f ≡ b → ledger.is_copy_failed ≡ start.is_copy_failed && not (list_any is_ready hs)
    → (cond b (record { owed = ledger.owed - 1; is_copy_failed = false }) ledger).is_copy_failed ≡ start.is_copy_failed && not (list_any is_ready (hs ++ f ∷ []))
owner_behind start hs ledger f true z e = no_more_failed start.is_copy_failed hs f z
owner_behind start hs ledger f false z e = still_failed start.is_copy_failed hs f ledger.is_copy_failed z e

drained : (start : Ledger) (said : List FrontendMessage) (hs : List Frame) (items : List CallItem) (ledger : Ledger) (failed : Bool) (f : Frame) → 0 < ledger.owed → is_error f ≡ false
    → IsDraining start said hs items ledger failed → IsDraining start (said ++ fails_for failed f) (hs ++ f ∷ []) items (ledger_behind ledger f) (failed_behind failed f)
drained start said hs items ledger failed f some e d =
    let below : count_by is_ready hs < start.owed = omega (arith, d.counted, some) in
    record {
      said_is = ap (λ (t : List FrontendMessage). t ++ fails_for failed f) d.said_is ∙ ap (λ (b : Bool). drain_fails start.is_copy_failed hs ++ fails_for b f) d.failed_is ∙ sym (fails-push start.is_copy_failed hs f);
      items_are = d.items_are;
      counted = ready_behind start hs ledger f (is_ready f) refl some d.counted;
      owner = owner_behind start hs ledger f (is_ready f) refl d.owner;
      failed_is = ap (λ (b : Bool). failed_behind b f) d.failed_is ∙ sym (failed-push start.is_copy_failed hs f);
      well = count-same is_error hs f 0 e d.well;
      none = after_below hs start.owed f below;
      all = before_below hs start.owed f below ∙ ap (λ (t : List Frame). t ++ f ∷ []) d.all;
    }

said_alone : (xs : List FrontendMessage) → xs ≡ xs ++ ([] ++ []) ++ []
said_alone xs = sym (append-nil (xs ++ []) ∙ append-nil xs)

-- what a draining call leaves
pub leaves_draining : (start : Ledger) (r : Request) (said : List FrontendMessage) (hs : List Frame) (items : List CallItem) (ledger : Ledger) (failed : Bool) → IsDraining start said hs items ledger failed → Leaves start r said hs items ledger false
leaves_draining start r said hs items ledger failed d = record {
  own = [];
  bye = [];
  reply = [];
  said_is = d.said_is ∙ ap (λ (t : List Frame). drain_fails start.is_copy_failed t) (sym d.all) ∙ said_alone (drain_fails start.is_copy_failed (before_readys start.owed hs));
  counted = omega (arith, d.counted);
  failed_is = d.owner;
  queued = inl refl;
  farewells = inl refl;
  replied = d.none;
  reply_has_frames = tt;
  shows = rw d.items_are (shown (kind_of r) [], refl);
  idle = λ e. d.items_are;
  rests = λ e. d.none;
}

-- the same behind an error
leaves_drained : (start : Ledger) (r : Request) (said : List FrontendMessage) (hs : List Frame) (items : List CallItem) (ledger : Ledger) (failed : Bool) (f : Frame) → is_ready f ≡ false → fails_for failed f ≡ [] → 0 < ledger.owed
    → IsDraining start said hs items ledger failed → Leaves start r said (hs ++ f ∷ []) items ledger false
leaves_drained start r said hs items ledger failed f z n some d =
    let below : count_by is_ready hs < start.owed = omega (arith, d.counted, some) in
    record {
      own = [];
      bye = [];
      reply = [];
      said_is =
          sym (append-nil said)
          ∙ ap (λ (t : List FrontendMessage). said ++ t) (sym n)
          ∙ ap (λ (t : List FrontendMessage). t ++ fails_for failed f) d.said_is
          ∙ ap (λ (b : Bool). drain_fails start.is_copy_failed hs ++ fails_for b f) d.failed_is
          ∙ sym (fails-push start.is_copy_failed hs f)
          ∙ ap (λ (t : List Frame). drain_fails start.is_copy_failed t) (sym (before_below hs start.owed f below ∙ ap (λ (t : List Frame). t ++ f ∷ []) d.all))
          ∙ said_alone (drain_fails start.is_copy_failed (before_readys start.owed (hs ++ f ∷ [])));
      counted = omega (arith, d.counted, count-same is_ready hs f (count_by is_ready hs) z refl);
      failed_is = still_failed start.is_copy_failed hs f ledger.is_copy_failed z d.owner;
      queued = inl refl;
      farewells = inl refl;
      replied = after_below hs start.owed f below;
      reply_has_frames = tt;
      shows = rw d.items_are (shown (kind_of r) [], refl);
      idle = λ e. d.items_are;
      rests = λ e. after_below hs start.owed f below;
    }

fails_none : (f : Frame) (tag : ℕ) (failed : Bool) → f.tag ≡ tag → fails_for failed (record { tag = tag; body = f.body }) ≡ [] → fails_for failed f ≡ []
fails_none f tag failed e h = rw e h

test_at : (t : Frame → Bool) (f : Frame) (tag : ℕ) (b : Bool) → f.tag ≡ tag → t (record { tag = tag; body = f.body }) ≡ b → t f ≡ b
test_at t f tag b e h = rw e h

pub drain_takes : (f : Frame) (a b : Running) (w : Waiting) (beat : Beat) (fails : Bool) → a.call ≡ calls.Waiting w → 0 < a.ledger.owed → DrainsBy f w.is_copy_failed a b beat fails
    → (start : Ledger) (r : Request) (said : List FrontendMessage) (hs : List Frame) (items : List CallItem) → CallIs start r said hs items a.ledger (calls.Waiting w) → CallTakes start r (said ++ fails_of fails) (hs ++ f ∷ []) items b.ledger b.call beat
drain_takes f a b w beats.More fails k some d start r said hs items i =
    rw (d.2, d.1, k) (i.0, i.1, i.2, drained start said hs items a.ledger w.is_copy_failed f some d.0 i.3, i.4, i.5, i.6)
drain_takes f a b w beats.Waits fails k some d start r said hs items i = absurd d
drain_takes f a b w (beats.Yields item) fails k some d start r said hs items i = absurd d
drain_takes f a b w (beats.Opens opened) fails k some d start r said hs items i = absurd d
drain_takes f a b w (beats.HandsOn next) fails k some d start r said hs items i = absurd d
drain_takes f a b w (beats.Ends answer) fails k some d start r said hs items i =
    let tag : f.tag ≡ 69 = sym (ap (λ (g : Frame). g.tag) d.1.1) in
    rw (d.4, d.2, d.3, append-nil said) (
      refl,
      (
        leaves_drained start r said hs items a.ledger w.is_copy_failed f (test_at is_ready f 69 false tag refl) (fails_none f 69 w.is_copy_failed tag refl) some i.3,
        (hs, ap (λ (g : Frame). hs ++ g ∷ []) (sym d.1.1), d.1.0, i.3.well),
      ),
      tt,
    )

-- ---- the own reply

one_group : (groups : List Group) → length groups ≡ 1 → (group : Group) × (groups ≡ group ∷ [])
one_group [] e = absurd (omega (arith, e))
one_group (g ∷ []) e = (g, refl)
one_group (g ∷ h ∷ gs) e = absurd (omega (arith, e))

owner_own : (start : Ledger) (hs : List Frame) (groups : List Group) (copied : Bool) → length groups ≡ 1 → copied ≡ owner_failed start hs groups copied
owner_own start hs [] copied e = absurd (omega (arith, e))
owner_own start hs (g ∷ gs) copied e = refl

not_none : (groups : List Group) → length groups ≡ 1 → groups ≡ [] → ⊥
not_none groups n e = let z = ap (λ (g : List Group). length g) e in absurd (omega (arith, n, z))

-- what a call leaves whose reply comes, with some more messages of it
pub leaves_own : (start : Ledger) (r : Request) (said : List FrontendMessage) (hs hs' : List Frame) (items : List CallItem) (reply : Reply) (i : IsReplying start r said hs items reply) (copied : Bool) (own' : List BackendMessage) → CanBeSaid r
    → count_by is_ready hs' ≡ start.owed → before_readys start.owed hs' ≡ before_readys start.owed hs → after_readys start.owed hs' ≡ map backend_frame own' → AllByRecursion HasBackendFrame own' → (more : List CallItem) → items_of (heading_of r) own' ≡ items_of (heading_of r) i.own ++ more
    → Leaves start r (said ++ fails_of copied) hs' items (record { owed = 1; is_copy_failed = copied }) copied
leaves_own start r said hs hs' items reply i copied own' can c before after have more same = record {
  own = groups_of r;
  bye = [];
  reply = own';
  said_is =
      ap (λ (t : List FrontendMessage). t ++ fails_of copied) (
      i.said_is
      ∙ ap (λ (t : List Frame). drain_fails start.is_copy_failed t ++ said_in (groups_of r)) (sym before)
      ∙ ap (λ (t : List FrontendMessage). drain_fails start.is_copy_failed (before_readys start.owed hs') ++ t) (sym (append-nil (said_in (groups_of r))))
      );
  counted = omega (arith, c, i.one);
  failed_is = owner_own start hs' (groups_of r) copied i.one;
  queued = inr (refl, i.one, can, c);
  farewells = inl refl;
  replied = after;
  reply_has_frames = have;
  shows = (
    shown (kind_of r) more,
    ap (λ (t : List CallItem). t ++ shown (kind_of r) more) (i.items_are ∙ ap (λ (k : Kind). shown k (items_of (heading_of r) i.own)) i.kind_is)
        ∙ sym (filter-append (yields (kind_of r)) (items_of (heading_of r) i.own) more)
        ∙ ap (shown (kind_of r)) (sym same),
  );
  idle = λ e. absurd (not_none (groups_of r) i.one e);
  rests = λ e. absurd (omega (arith, e));
}

-- one message more of the own reply
own_push : (start : Ledger) (r : Request) (said : List FrontendMessage) (hs : List Frame) (items : List CallItem) (reply : Reply) (i : IsReplying start r said hs items reply) (m : BackendMessage)
    → after_readys start.owed (hs ++ backend_frame m ∷ []) ≡ map backend_frame (i.own ++ m ∷ [])
own_push start r said hs items reply i m =
    after_from hs start.owed (backend_frame m) (omega (arith, i.counted)) ∙ ap (λ (t : List Frame). t ++ backend_frame m ∷ []) i.own_is ∙ sym (map-append backend_frame i.own (m ∷ []))

-- a message that is no item, whatever the heading
abbrev IsNoItem : BackendMessage → Type 0
IsNoItem m = (h : Heading) → item_by h (news_of m) ≡ []

items_same : (h : Heading) (own : List BackendMessage) (m : BackendMessage) → IsNoItem m → items_of h (own ++ m ∷ []) ≡ items_of h own
items_same h own m e = items-push h own m ∙ ap (λ (t : List CallItem). items_of h own ++ t) (e (heading_after h own)) ∙ append-nil (items_of h own)

leaves_with : (start : Ledger) (r : Request) (said : List FrontendMessage) (hs : List Frame) (items : List CallItem) (reply : Reply) (copied : Bool) (m : BackendMessage) → CanBeSaid r → HasBackendFrame m → is_ready (backend_frame m) ≡ false
    → IsReplying start r said hs items reply → Leaves start r (said ++ fails_of copied) (hs ++ backend_frame m ∷ []) items (record { owed = 1; is_copy_failed = copied }) copied
leaves_with start r said hs items reply copied m can have z i =
    leaves_own start r said hs (hs ++ backend_frame m ∷ []) items reply i copied (i.own ++ m ∷ []) can
    (count-same is_ready hs (backend_frame m) start.owed z i.counted)
    (before_from hs start.owed (backend_frame m) (omega (arith, i.counted)))
    (own_push start r said hs items reply i m)
    (each_end HasBackendFrame i.own m i.own_have_frames have)
    (item_by (heading_after (heading_of r) i.own) (news_of m))
    (items-push (heading_of r) i.own m)

-- an error ends it
own_fails : (start : Ledger) (r : Request) (said : List FrontendMessage) (hs : List Frame) (items : List CallItem) (reply : Reply) (error : List ErrorField) → CanBeSaid r → HasBackendFrame (ErrorResponse error) → IsReplying start r said hs items reply
    → CallTakes start r (said ++ []) (hs ++ backend_frame (ErrorResponse error) ∷ []) items owes_own calls.Idle (beats.Ends (Err (errors.Database error)))
own_fails start r said hs items reply error can have i = (
  refl,
  (
    leaves_with start r said hs items reply false (ErrorResponse error) can have refl i,
    (hs, refl, have, i.well),
  ),
  tt,
)

-- ---- its end

pub no_groups_close : (r : Request) → kind_of r ≡ kinds.Close → (groups_of r ≡ []) × (messages_of r ≡ farewell kinds.Close)
no_groups_close requests.Close e = (refl, refl)
no_groups_close requests.Flush e = absurd cc
no_groups_close (requests.Describe extended) e = absurd cc
no_groups_close (requests.Run bound) e = absurd cc
no_groups_close (requests.Look lookup) e = absurd cc
no_groups_close (requests.Fill filling) e = absurd cc
no_groups_close (requests.Evict eviction) e = absurd cc
no_groups_close (requests.Clear statements) e = absurd cc
no_groups_close (requests.Prepare prepared) e = absurd cc
no_groups_close requests.Ping e = absurd cc
no_groups_close (requests.Execute query) e = absurd cc
no_groups_close (requests.ExecuteMany query) e = absurd cc
no_groups_close (requests.Fetch query) e = absurd cc
no_groups_close (requests.FetchMany query) e = absurd cc
no_groups_close (requests.FetchAll query) e = absurd cc
no_groups_close (requests.FetchOptional query) e = absurd cc
no_groups_close (requests.FetchOne query) e = absurd cc
no_groups_close (requests.Begin depth) e = absurd cc
no_groups_close (requests.BeginWith query) e = absurd cc
no_groups_close (requests.CopyOut query) e = absurd cc
no_groups_close (requests.CopyIn feed) e = absurd cc
no_groups_close (requests.Commit left) e = absurd cc
no_groups_close (requests.Rollback left) e = absurd cc

on_ok : {A E : Type 0} (result : Result A E) (P : Type 0) → P → OnOk result P
on_ok (Ok a) P p = p
on_ok (Err e) P p = tt

-- an answer at the end of a reply
abbrev IsLast : Result CallAnswer Error → Type 0
IsLast (Ok a) = Unit {0}
IsLast (Err errors.RowNotFound) = Unit {0}
IsLast (Err (errors.BeginFailed status)) = Unit {0}
IsLast (Err _) = ⊥

one_row_last : (o : Option RowSeen) → IsLast (one_row o)
one_row_last None = tt
one_row_last (Some row) = tt

begun_last : (status : TransactionStatus) → IsLast (begun status)
begun_last statuses.Idle = tt
begun_last statuses.Transaction = tt
begun_last statuses.Error = tt

finished_last : (kind : Kind) (t : Tally) (status : TransactionStatus) → IsLast (finished kind t status)
finished_last (kinds.Run hows.Execute) t status = tt
finished_last (kinds.Run hows.ExecuteMany) t status = tt
finished_last (kinds.Run hows.Fetch) t status = tt
finished_last (kinds.Run hows.FetchMany) t status = tt
finished_last (kinds.Run hows.FetchAll) t status = tt
finished_last (kinds.Run hows.FetchOptional) t status = tt
finished_last (kinds.Run hows.FetchOne) t status = one_row_last t.first
finished_last kinds.Describe t status = tt
finished_last kinds.Prepare t status = tt
finished_last kinds.Clear t status = tt
finished_last kinds.Begin t status = begun_last status
finished_last kinds.Commit t status = tt
finished_last kinds.Rollback t status = tt
finished_last kinds.CopyOut t status = tt
finished_last kinds.CopyIn t status = tt
finished_last kinds.Ping t status = tt
finished_last kinds.Flush t status = tt
finished_last kinds.Close t status = tt

ends_fine : (start : Ledger) (r : Request) (said : List FrontendMessage) (hs : List Frame) (items : List CallItem) (ledger : Ledger) (answer : Result CallAnswer Error) → IsLast answer → EndsFine start r said hs items ledger (beats.Ends answer) → CallEnds start r said hs items ledger answer
ends_fine start r said hs items ledger (Ok a) k f = f
ends_fine start r said hs items ledger (Err errors.RowNotFound) k f = f
ends_fine start r said hs items ledger (Err (errors.BeginFailed status)) k f = f
ends_fine start r said hs items ledger (Err _) k f = absurd k

-- what the end of a reply comes to, and what is said of the call then
abbrev IsLastBeat : Beat → Type 0
IsLastBeat (beats.Ends answer) = IsLast answer
IsLastBeat (beats.HandsOn next) = Unit {0}
IsLastBeat _ = ⊥

told_last : (start : Ledger) (r : Request) (said : List FrontendMessage) (hs : List Frame) (items : List CallItem) (ledger : Ledger) (beat : Beat) → IsLastBeat beat → EndsFine start r said hs items ledger beat → (kind_of r ≡ kinds.Close → ⊥)
    → CallTakes start r said hs items ledger calls.Idle beat
told_last start r said hs items ledger (beats.Ends answer) l f n = (refl, ends_fine start r said hs items ledger answer l f, on_ok answer (kind_of r ≡ kinds.Close → ⊥) n)
told_last start r said hs items ledger (beats.HandsOn next) l f n = (refl, f, n)
told_last start r said hs items ledger _ l f n = absurd l

pub plain_messages : (r : Request) → length (groups_of r) ≡ 1 → said_in (groups_of r) ≡ messages_of r
plain_messages (requests.Execute query) n = refl
plain_messages (requests.ExecuteMany query) n = refl
plain_messages (requests.Fetch query) n = refl
plain_messages (requests.FetchMany query) n = refl
plain_messages (requests.FetchAll query) n = refl
plain_messages (requests.FetchOptional query) n = refl
plain_messages (requests.FetchOne query) n = refl
plain_messages (requests.Begin depth) n = refl
plain_messages (requests.BeginWith query) n = refl
plain_messages (requests.CopyOut query) n = refl
plain_messages (requests.CopyIn feed) n = sym (append-nil (said_in (groups_of (requests.CopyIn feed))))
plain_messages (requests.Commit left) n = refl
plain_messages (requests.Rollback left) n = refl
plain_messages (requests.Describe extended) n = refl
plain_messages (requests.Run bound) n = sym (append-nil (said_in (groups_of (requests.Run bound))))
plain_messages (requests.Look lookup) n = refl
plain_messages (requests.Fill filling) n = refl
plain_messages (requests.Evict eviction) n = refl
plain_messages (requests.Clear statements) n = sym (append-nil (said_in (groups_of (requests.Clear statements))))
plain_messages (requests.Prepare prepared) n = absurd (omega (arith, n))
plain_messages requests.Ping n = refl
plain_messages requests.Flush n = absurd (omega (arith, n))
plain_messages requests.Close n = absurd (omega (arith, n))

closed_fine : (start : Ledger) (r : Request) (said : List FrontendMessage) (hs : List Frame) (items : List CallItem) (reply : Reply) (i : IsReplying start r said hs items reply) (status : TransactionStatus) → CanBeSaid r
    → IsFine start r said (hs ++ backend_frame (ReadyForQuery status) ∷ []) items owes_none
closed_fine start r said hs items reply i status can =
    let m = ReadyForQuery status in
    let f = backend_frame m in
    record {
      reply = i.own ++ m ∷ [];
      status = status;
      can = can;
      said_is = i.said_is ∙ ap (λ (t : List Frame). drain_fails start.is_copy_failed t ++ said_in (groups_of r)) (sym (before_from hs start.owed f (omega (arith, i.counted)))) ∙ ap (λ (t : List FrontendMessage). drain_fails start.is_copy_failed (before_readys start.owed (hs ++ f ∷ [])) ++ t) (plain_messages r i.one);
      owes = refl;
      counted = omega (arith, i.counted, i.one, count-push is_ready hs f);
      well = count-same is_error hs f 0 refl i.well;
      replied = own_push start r said hs items reply i m;
      reply_has_frames = each_end HasBackendFrame i.own m i.own_have_frames tt;
      items_are = i.items_are ∙ ap (λ (k : Kind). shown k (items_of (heading_of r) i.own)) i.kind_is ∙ ap (shown (kind_of r)) (sym (items_same (heading_of r) i.own m (λ h. refl)));
      ends = inr (hs, f, refl, refl);
      last = inr (hs, refl);
    }

own_not_close : (r : Request) → length (groups_of r) ≡ 1 → kind_of r ≡ kinds.Close → ⊥
own_not_close r n k = let z = ap (λ (g : List Group). length g) (no_groups_close r k).0 in absurd (omega (arith, n, z))

handed_last : (rest : Rest) (parameters : List ℕ) (columns : Option (List PgColumn)) (answer : Result CallAnswer Error) → IsLast answer → IsLastBeat (handed_on rest parameters columns answer)
handed_last rests.Nothing parameters columns answer l = l
handed_last _ parameters columns answer l = tt

handed_goes : (rest : Rest) (parameters : List ℕ) (columns : Option (List PgColumn)) (answer : Result CallAnswer Error) → handed_on rest parameters columns answer ≢ beats.Waits
handed_goes rests.Nothing parameters columns answer e = cc
handed_goes _ parameters columns answer e = cc

-- what closes a description has described these columns
described_at : (h : Heading) (own : List BackendMessage) (part : Part) (status : TransactionStatus) → h.columns ≡ Some [] → part_after parts.Parsing own ≡ Some part → may_close part ≡ true → (heading_after h own).columns ≡ Some (columns_of (described (own ++ ReadyForQuery status ∷ [])))
described_at h own part status none e c = by part (describes_after parts.Parsing part own tt e) e c
  where
    by : (part : Part) → Describes part → part_after parts.Parsing own ≡ Some part → may_close part ≡ true → (heading_after h own).columns ≡ Some (columns_of (described (own ++ ReadyForQuery status ∷ [])))
    by (parts.Described columns) d e c = described_columns h own columns status none e
    by parts.Parsing d e c = absurd cc
    by parts.Typing d e c = absurd cc
    by parts.Describing d e c = absurd cc
    by _ d e c = absurd d

answers_same : (r : Request) (own : List BackendMessage) (reply : Reply) (status : TransactionStatus) → reply.rest ≡ rest_of r → reply.heading ≡ heading_after (heading_of r) own → reply.parameters ≡ parameters_after [] own → part_after (awaits_first r) own ≡ Some reply.part → may_close reply.part ≡ true
    → answer_to (kind_of r) (items_of (heading_of r) (own ++ ReadyForQuery status ∷ [])) status ≡ finished reply.kind reply.tally status
    → answer_by r (own ++ ReadyForQuery status ∷ []) status ≡ handed_on reply.rest reply.parameters reply.heading.columns (finished reply.kind reply.tally status)
answers_same (requests.Describe x) own reply status k h t p c e =
    let r : Request = requests.Describe x in
    ap (λ (w : Option (List PgColumn)). beats.HandsOn (requests.Describe (told (parameters_after [] (own ++ ReadyForQuery status ∷ [])) w x))) (sym (ap (λ (y : Heading). y.columns) h ∙ described_at (heading_of r) own reply.part status refl p c))
    ∙ ap (λ (w : List ℕ). beats.HandsOn (requests.Describe (told w reply.heading.columns x))) (parameters-push [] own (ReadyForQuery status) ∙ sym t)
    ∙ ap (λ (o : Rest). handed_on o reply.parameters reply.heading.columns (finished reply.kind reply.tally status)) (sym k)
answers_same (requests.Look lookup) own reply status k h t p c e = ap (λ (o : Rest). handed_on o reply.parameters reply.heading.columns (finished reply.kind reply.tally status)) (sym k)
answers_same (requests.Fill filling) own reply status k h t p c e = ap (λ (o : Rest). handed_on o reply.parameters reply.heading.columns (finished reply.kind reply.tally status)) (sym k)
answers_same (requests.Evict eviction) own reply status k h t p c e = ap (λ (o : Rest). handed_on o reply.parameters reply.heading.columns (finished reply.kind reply.tally status)) (sym k)
answers_same (requests.Prepare prepared) own reply status k h t p c e = ap (λ (o : Rest). handed_on o reply.parameters reply.heading.columns (finished reply.kind reply.tally status)) (sym k)
answers_same _ own reply status k h t p c e = ap (λ (w : Result CallAnswer Error). beats.Ends w) e ∙ ap (λ (o : Rest). handed_on o reply.parameters reply.heading.columns (finished reply.kind reply.tally status)) (sym k)

own_closes : (start : Ledger) (r : Request) (said : List FrontendMessage) (hs : List Frame) (items : List CallItem) (reply : Reply) (status : TransactionStatus) → may_close reply.part ≡ true → CanBeSaid r → IsReplying start r said hs items reply
    → CallTakes start r (said ++ []) (hs ++ backend_frame (ReadyForQuery status) ∷ []) items owes_none calls.Idle (handed_on reply.rest reply.parameters reply.heading.columns (finished reply.kind reply.tally status))
unfolding closed_fine
own_closes start r said hs items reply status closes can i =
    let plain : answer_to (kind_of r) (items_of (heading_of r) (i.own ++ ReadyForQuery status ∷ [])) status ≡ finished reply.kind reply.tally status =
    ap (λ (t : List CallItem). answer_to (kind_of r) t status) (items_same (heading_of r) i.own (ReadyForQuery status) (λ h. refl)) ∙ ap (λ (k : Kind). answer_to k (items_of (heading_of r) i.own) status) (sym i.kind_is) ∙ ap (λ (t : Tally). finished reply.kind t status) (sym i.tally_is) in
    let same = answers_same r i.own reply status i.rest_is i.heading_is i.parameters_are i.so_far closes plain in
    told_last start r (said ++ []) _ items owes_none _ (handed_last reply.rest reply.parameters reply.heading.columns _ (finished_last reply.kind reply.tally status)) (rw (append-nil said) (closed_fine start r said hs items reply i status can, same)) (λ k. own_not_close r i.one k)

-- ---- another reply than the one that is awaited

own_copies : (start : Ledger) (r : Request) (said : List FrontendMessage) (hs : List Frame) (items : List CallItem) (reply : Reply) (m : BackendMessage) → CanBeSaid r → HasBackendFrame m → may_stray reply.part m ≡ true → is_ready (backend_frame m) ≡ false → is_error (backend_frame m) ≡ false
    → IsReplying start r said hs items reply
    → let tag = (backend_frame m).tag in let copied = tag == 71 in
    CallTakes start r (said ++ fails_of copied) (hs ++ backend_frame m ∷ []) items (record { owed = 1; is_copy_failed = copied }) calls.Idle (beats.Ends (Err (errors.Protocol (protocol.Reply tag))))
unfolding leaves_with leaves_own
own_copies start r said hs items reply m can have copies z e i = (
  refl,
  (
    (leaves_with start r said hs items reply ((backend_frame m).tag == 71) m can have z i, refl, i.one),
    count-same is_error hs (backend_frame m) 0 e i.well,
    record {
      front = hs;
      own = i.own;
      part = reply.part;
      last = m;
      hs_are = refl;
      last_has_frame = have;
      tagged = refl;
      own_is = i.own_is;
      own_have_frames = i.own_have_frames;
      so_far = i.so_far;
      copies = copies;
      lawful = λ group g.
          subst (BeginsCopyResponse group) (sym (after_from hs start.owed (backend_frame m) (omega (arith, i.counted)) ∙ ap (λ (x : List Frame). x ++ backend_frame m ∷ []) i.own_is))
          (group_copies r group i.own reply.part m g i.own_have_frames have i.so_far copies);
    },
  ),
  tt,
)

-- ---- it goes on

part-push : (s t u : Part) (ms : List BackendMessage) (m : BackendMessage) → part_after s ms ≡ Some t → goes_on t m ≡ Some u → part_after s (ms ++ m ∷ []) ≡ Some u
part-push s t u [] m e j =
    let same : s ≡ t = cc in
    rw same (ap (λ (o : Option Part). option_and_then (λ n. part_after n []) o) j)
part-push s t u (x ∷ xs) m e j = by (goes_on s x) (λ n k. part-push n t u xs m k j) e
  where
    by : (o : Option Part) → ((n : Part) → part_after n xs ≡ Some t → part_after n (xs ++ m ∷ []) ≡ Some u) → option_and_then (λ n. part_after n xs) o ≡ Some t → option_and_then (λ n. part_after n (xs ++ m ∷ [])) o ≡ Some u
    by None f k = absurd cc
    by (Some n) f k = f n k

went_on : (start : Ledger) (r : Request) (said : List FrontendMessage) (hs : List Frame) (items : List CallItem) (reply : Reply) (next : Part) (m : BackendMessage) → HasBackendFrame m → goes_on reply.part m ≡ Some next → is_ready (backend_frame m) ≡ false → is_error (backend_frame m) ≡ false
    → IsReplying start r said hs items reply → IsReplying start r said (hs ++ backend_frame m ∷ []) (items ++ filter (yields reply.kind) (item_by reply.heading (news_of m))) (gone_on reply next (news_of m))
went_on start r said hs items reply next m have goes z e i =
    let added : items_of (heading_of r) i.own ++ item_by reply.heading (news_of m) ≡ items_of (heading_of r) (i.own ++ m ∷ []) =
    ap (λ (h : Heading). items_of (heading_of r) i.own ++ item_by h (news_of m)) i.heading_is ∙ sym (items-push (heading_of r) i.own m) in
    record {
      own = i.own ++ m ∷ [];
      kind_is = i.kind_is;
      one = i.one;
      said_is = i.said_is ∙ ap (λ (t : List Frame). drain_fails start.is_copy_failed t ++ said_in (groups_of r)) (sym (before_from hs start.owed (backend_frame m) (omega (arith, i.counted))));
      counted = count-same is_ready hs (backend_frame m) start.owed z i.counted;
      well = count-same is_error hs (backend_frame m) 0 e i.well;
      own_is = own_push start r said hs items reply i m;
      own_have_frames = each_end HasBackendFrame i.own m i.own_have_frames have;
      so_far = part-push (awaits_first r) reply.part next i.own m i.so_far goes;
      rest_is = i.rest_is;
      heading_is = ap (λ (h : Heading). heading_by h (news_of m)) i.heading_is ∙ sym (heading-push (heading_of r) i.own m);
      parameters_are = ap (λ (t : List ℕ). parameters_by t (news_of m)) i.parameters_are ∙ sym (parameters-push [] i.own m);
      tally_is = ap (λ (t : Tally). added_all reply.kind t (item_by reply.heading (news_of m))) i.tally_is ∙ tally-more reply.kind (items_of (heading_of r) i.own) (item_by reply.heading (news_of m)) ∙ ap (tally_of reply.kind) added;
      items_are = ap (λ (t : List CallItem). t ++ filter (yields reply.kind) (item_by reply.heading (news_of m))) i.items_are ∙ sym (filter-append (yields reply.kind) (items_of (heading_of r) i.own) (item_by reply.heading (news_of m))) ∙ ap (shown reply.kind) added;
    }

-- what a reply goes on by is no error, and not its end
no_ready : (part next : Part) (status : TransactionStatus) → goes_on part (ReadyForQuery status) ≡ Some next → ⊥
no_ready parts.First next status e = absurd cc
no_ready parts.Further next status e = absurd cc
no_ready (parts.Rows columns) next status e = absurd cc
no_ready parts.Synced next status e = absurd cc
no_ready parts.Parsing next status e = absurd cc
no_ready parts.Typing next status e = absurd cc
no_ready parts.Describing next status e = absurd cc
no_ready (parts.Described columns) next status e = absurd cc
no_ready parts.Reparsing next status e = absurd cc
no_ready (parts.Binding width) next status e = absurd cc
no_ready (parts.Running width) next status e = absurd cc
no_ready (parts.RunningOn columns) next status e = absurd cc
no_ready (parts.Closing more) next status e = absurd cc
no_ready parts.CopyFirst next status e = absurd cc
no_ready parts.CopyData next status e = absurd cc
no_ready parts.CopyEnd next status e = absurd cc
no_ready parts.Copied next status e = absurd cc
no_ready (parts.Opening ended) next status e = absurd cc
no_ready (parts.Feeding true) next status e = absurd cc
no_ready (parts.Feeding false) next status e = absurd cc

no_error : (part next : Part) (details : List ErrorField) → goes_on part (ErrorResponse details) ≡ Some next → ⊥
no_error parts.First next details e = absurd cc
no_error parts.Further next details e = absurd cc
no_error (parts.Rows columns) next details e = absurd cc
no_error parts.Synced next details e = absurd cc
no_error parts.Parsing next details e = absurd cc
no_error parts.Typing next details e = absurd cc
no_error parts.Describing next details e = absurd cc
no_error (parts.Described columns) next details e = absurd cc
no_error parts.Reparsing next details e = absurd cc
no_error (parts.Binding width) next details e = absurd cc
no_error (parts.Running width) next details e = absurd cc
no_error (parts.RunningOn columns) next details e = absurd cc
no_error (parts.Closing more) next details e = absurd cc
no_error parts.CopyFirst next details e = absurd cc
no_error parts.CopyData next details e = absurd cc
no_error parts.CopyEnd next details e = absurd cc
no_error parts.Copied next details e = absurd cc
no_error (parts.Opening ended) next details e = absurd cc
no_error (parts.Feeding true) next details e = absurd cc
no_error (parts.Feeding false) next details e = absurd cc

goes_plain : (part next : Part) (m : BackendMessage) → goes_on part m ≡ Some next → (is_ready (backend_frame m) ≡ false) × (is_error (backend_frame m) ≡ false)
goes_plain part next (ReadyForQuery status) e = absurd (no_ready part next status e)
goes_plain part next (ErrorResponse details) e = absurd (no_error part next details e)
goes_plain part next _ e = (refl, refl)

pub copies_plain : (part : Part) (m : BackendMessage) → may_stray part m ≡ true → (is_ready (backend_frame m) ≡ false) × (is_error (backend_frame m) ≡ false)
copies_plain part (ReadyForQuery status) e = absurd (none part e)
  where
    none : (part : Part) → may_stray part (ReadyForQuery status) ≡ true → ⊥
    none parts.First e = cc
    none parts.Further e = cc
    none (parts.Running width) e = cc
    none parts.CopyFirst e = cc
    none parts.Copied e = cc
    none (parts.Opening ended) e = cc
    none _ e = cc
copies_plain part (ErrorResponse details) e = absurd (none part e)
  where
    none : (part : Part) → may_stray part (ErrorResponse details) ≡ true → ⊥
    none parts.First e = cc
    none parts.Further e = cc
    none (parts.Running width) e = cc
    none parts.CopyFirst e = cc
    none parts.Copied e = cc
    none (parts.Opening ended) e = cc
    none _ e = cc
copies_plain part _ e = (refl, refl)

-- ---- a message of the own reply

-- the call is told, whatever its fields are called
call_at : (start : Ledger) (r : Request) (said : List FrontendMessage) (hs : List Frame) (items : List CallItem) (l l' : Ledger) (k k' : Call) (beat : Beat) → l' ≡ l → k' ≡ k → CallTakes start r said hs items l k beat → CallTakes start r said hs items l' k' beat
call_at start r said hs items l l' k k' beat e f c = subst (λ (x : Call). CallTakes start r said hs items l' x beat) (sym f) (subst (λ (x : Ledger). CallTakes start r said hs items x k beat) (sym e) c)

-- what Follows says of the ledger and the call
running_at : (a b : Running) → b ≡ a → (b.ledger ≡ a.ledger) × (b.call ≡ a.call)
running_at a b e = (ap (λ (x : Running). x.ledger) e, ap (λ (x : Running). x.call) e)

pub own_takes : (start : Ledger) (r : Request) (said : List FrontendMessage) (hs : List Frame) (items : List CallItem) (reply reply' : Reply) (m : BackendMessage) (heard : Heard) (ledger : Ledger) (b : Running) (taken : Taken) → HasBackendFrame m
    → HearsMessage reply reply' m heard → Follows (backend_frame m).tag heard (record { ledger = ledger; call = calls.Own reply' }) b taken → ledger ≡ owes_own → CanBeSaid r → IsReplying start r said hs items reply
    → CallTakes start r (said ++ fails_of taken.fails_copy) (hs ++ backend_frame m ∷ []) items b.ledger b.call taken.beat
own_takes start r said hs items reply reply' m heards.More ledger b taken have h f o can i =
    let g = goes_plain reply.part h.0 m h.1 in
    let none : items ++ filter (yields reply.kind) (item_by reply.heading (news_of m)) ≡ items = ap (λ (t : List CallItem). items ++ t) h.3 ∙ append-nil items in
    rw (f.1, f.0, append-nil said, h.2) (o, can, rw none at (went_on start r said hs items reply h.0 m have h.1 g.0 g.1 i))
own_takes start r said hs items reply reply' m (heards.Yields item) ledger b taken have h f o can i =
    let g = goes_plain reply.part h.0 m h.1 in
    rw (f.1, f.0, append-nil said, h.2) (o, can, rw h.3 at (went_on start r said hs items reply h.0 m have h.1 g.0 g.1 i))
own_takes start r said hs items reply reply' m (heards.Opens opened) ledger b taken have h f o can i =
    let g = goes_plain reply.part h.0 m h.1 in
    let none : items ++ filter (yields reply.kind) (item_by reply.heading (news_of m)) ≡ items = ap (λ (t : List CallItem). items ++ t) h.3 ∙ append-nil items in
    let opens = opens_for r i.own reply.part h.0 m opened i.so_far h.1 h.4 in
    rw (f.1, f.0, append-nil said, h.2) ((o, can, rw none at (went_on start r said hs items reply h.0 m have h.1 g.0 g.1 i)), opens.0, opens.1)
own_takes start r said hs items reply reply' m (heards.Failed error) ledger b taken have h f o can i =
    rw (f.1, f.0, o, h.0) (own_fails start r said hs items reply error can (rw h.0 at have) i)
own_takes start r said hs items reply reply' m (heards.Closed status) ledger b taken have h f o can i =
    rw (f.1, f.0, h.1, h.2) (own_closes start r said hs items reply status h.0 can i)
own_takes start r said hs items reply reply' m heards.Strays ledger b taken have h f o can i =
    let p = copies_plain reply.part m h.0 in
    rw (f.1, f.0, o) (own_copies start r said hs items reply m can have h.0 p.0 p.1 i)

-- ---- a message that is refused

fault_at : (start : Ledger) (r : Request) (said : List FrontendMessage) (hs : List Frame) (items : List CallItem) (reply : Reply) (f : Frame) (e : Error) → IsFault (MayNotCome reply.part) f.tag f.body e → IsReplying start r said hs items reply
    → IsFrontFault start r (groups_of r) hs f e
fault_at start r said hs items reply f errors.OutOfMemory h i = tt
fault_at start r said hs items reply f (errors.Protocol (protocol.Server (faults.Malformed t))) h i = (h.0, λ m have same. h.1 m (have, same))
fault_at start r said hs items reply f (errors.Protocol (protocol.Server (faults.Unlawful t))) h i =
    let g = one_group (groups_of r) i.one in
    (h.0, (h.1, h.2.0, h.2.1), refl, i.counted, (g.0, g.1, λ b. group_refused r g.0 i.own reply.part f g.1 i.own_have_frames i.so_far (λ m have same. subst (MayNotCome reply.part) (backend_frame_unique h.1 m h.2.0 have (h.2.1 ∙ sym same)) h.3) (rw i.own_is at b)))
fault_at start r said hs items reply f _ h i = absurd h

pub own_refuses : (f : Frame) (ledger : Ledger) (reply : Reply) (e : Error) → IsFault (MayNotCome reply.part) f.tag f.body e
    → (start : Ledger) (r : Request) (said : List FrontendMessage) (hs : List Frame) (items : List CallItem) → CallIs start r said hs items ledger (calls.Own reply)
    → (l : Leaves start r said hs items ledger false) × (count_by is_error hs ≡ 0) × IsFrontFault start r l.own hs f e
unfolding leaves_own
own_refuses f ledger reply e h start r said hs items i =
    let l = leaves_own start r said hs hs items reply i.2 false i.2.own i.1 i.2.counted refl i.2.own_is i.2.own_have_frames [] (sym (append-nil (items_of (heading_of r) i.2.own))) in
    rw (i.0, ← append-nil said) (l, i.2.well, fault_at start r said hs items reply f e h i.2)

drain_fault : (start : Ledger) (r : Request) (own : List Group) (hs : List Frame) (f : Frame) (e : Error) → IsRefused f.tag f.body e → IsFrontFault start r own hs f e
drain_fault start r own hs f errors.OutOfMemory h = tt
drain_fault start r own hs f (errors.Protocol (protocol.Server (faults.Malformed t))) h = (h.0, λ m have same. h.1 m (have, same))
drain_fault start r own hs f _ h = absurd h

pub drain_refuses : (f : Frame) (ledger : Ledger) (w : Waiting) (e : Error) → IsRefused f.tag f.body e
    → (start : Ledger) (r : Request) (said : List FrontendMessage) (hs : List Frame) (items : List CallItem) → CallIs start r said hs items ledger (calls.Waiting w)
    → (l : Leaves start r said hs items ledger false) × (count_by is_error hs ≡ 0) × IsFrontFault start r l.own hs f e
unfolding leaves_draining
drain_refuses f ledger w e h start r said hs items i = (leaves_draining start r said hs items ledger w.is_copy_failed i.3, i.3.well, drain_fault start r [] hs f e h)

-- ---- as the answers of a function

abbrev pub as_call : Ledger → Call → Running
as_call ledger call = record { ledger = ledger; call = call }

pub drains_ok : (tag : ℕ) (body : List ℕ) (a b : Running) (w : Waiting) (result : Result Taken Error) → a.call ≡ calls.Waiting w → 0 < a.ledger.owed → IfOk result (Drains tag body w.is_copy_failed (as_call a.ledger (calls.Waiting w)) b)
    → IfOk result (TakesMessage tag body a b)
drains_ok tag body a b w (Ok taken) k some d = λ start r said hs items i. drain_takes (framed tag body) (as_call a.ledger (calls.Waiting w)) b w taken.beat taken.fails_copy refl some d start r said hs items (subst (λ (c : Call). CallIs start r said hs items a.ledger c) k i)
drains_ok tag body a b w (Err e) k some d = tt

pub drains_err : (tag : ℕ) (body : List ℕ) (a b : Running) (w : Waiting) (result : Result Taken Error) → a.call ≡ calls.Waiting w → IfErr result (λ e. (b ≡ as_call a.ledger (calls.Waiting w)) × IsRefused tag body e)
    → IfErr result (RefusesMessage tag body a)
drains_err tag body a b w (Ok taken) k d = tt
drains_err tag body a b w (Err e) k d = λ start r said hs items i. drain_refuses (framed tag body) a.ledger w e d.1 start r said hs items (subst (λ (c : Call). CallIs start r said hs items a.ledger c) k i)

test_none : (t : Frame → Bool) (n : ℕ) (f : Frame) → (f.tag ≢ n) → t f ≡ (f.tag == n) || false → t f ≡ false
test_none t n f d e = e ∙ by (f.tag == n) (λ h. d (eqb-true _ _ h))
  where
    by : (b : Bool) → (b ≡ true → ⊥) → b || false ≡ false
    by true h = absurd (h refl)
    by false h = refl

pub drains_other : (f : Frame) (failed : Bool) (a : Running) → (f.tag ≢ 90) → (f.tag ≢ 69) → (f.tag ≢ 71) → marked failed a.call ≡ a.call → DrainsBy f failed a a beats.More false
drains_other f failed a z e g m =
    let ready = test_none is_ready 90 f z refl in
    let error = test_none is_error 69 f e refl in
    let copy = test_none is_copy_in 71 f g refl in
    rw (ready, copy) (error, by failed m, refl)
  where
    by : (b : Bool) → marked b a.call ≡ a.call → a ≡ as_call a.ledger (marked (b || false) a.call)
    by true h = ap (λ (c : Call). as_call a.ledger c) (sym h)
    by false h = ap (λ (c : Call). as_call a.ledger c) (sym h)

pub own_errs : (tag : ℕ) (body : List ℕ) (a : Running) (reply : Reply) (e : Error) → a.call ≡ calls.Own reply → IsFault (MayNotCome reply.part) tag body e → RefusesMessage tag body a e
own_errs tag body a reply e k h start r said hs items i = own_refuses (framed tag body) a.ledger reply e h start r said hs items (subst (λ (c : Call). CallIs start r said hs items a.ledger c) k i)

pub own_oks : (tag : ℕ) (body : List ℕ) (a b : Running) (reply reply' : Reply) (heard : Heard) (taken : Taken) → a.call ≡ calls.Own reply → Hears reply reply' tag body heard → Follows tag heard (as_call a.ledger (calls.Own reply')) b taken → TakesMessage tag body a b taken
own_oks tag body a b reply reply' heard taken k h f start r said hs items i =
    let j = subst (λ (c : Call). CallIs start r said hs items a.ledger c) k i in
    let same : (backend_frame h.0).tag ≡ tag = ap (λ (g : Frame). g.tag) h.1.1 in
    let t = own_takes start r said hs items reply reply' h.0 heard a.ledger b taken h.1.0 h.2 (rw same f) j.0 j.1 j.2 in
    subst (λ (g : Frame). CallTakes start r (said ++ fails_of taken.fails_copy) (hs ++ g ∷ []) items b.ledger b.call taken.beat) h.1.1 t

-- ---- where a message leaves the call

drained_stays : (f : Frame) (a b : Running) (w : Waiting) (beat : Beat) (fails : Bool) → a.call ≡ calls.Waiting w → DrainsBy f w.is_copy_failed a b beat fails → StaysIn a.call fails b.call
drained_stays f a b w beats.More fails k d = rw (d.1, k) tt
drained_stays f a b w beats.Waits fails k d = absurd d
drained_stays f a b w (beats.Yields item) fails k d = absurd d
drained_stays f a b w (beats.Opens opened) fails k d = absurd d
drained_stays f a b w (beats.HandsOn next) fails k d = absurd d
drained_stays f a b w (beats.Ends answer) fails k d = rw d.3 tt

pub drains_stay : (tag : ℕ) (body : List ℕ) (a b : Running) (w : Waiting) (result : Result Taken Error) → a.call ≡ calls.Waiting w → IfOk result (Drains tag body w.is_copy_failed (as_call a.ledger (calls.Waiting w)) b)
    → IfOk result (λ taken. StaysIn a.call taken.fails_copy b.call)
drains_stay tag body a b w (Ok taken) k d = rw k (drained_stays (framed tag body) (as_call a.ledger (calls.Waiting w)) b w taken.beat taken.fails_copy refl d)
drains_stay tag body a b w (Err e) k d = tt

pub own_stays : (tag : ℕ) (a b : Running) (reply reply' : Reply) (heard : Heard) (taken : Taken) → a.call ≡ calls.Own reply → Follows tag heard (as_call a.ledger (calls.Own reply')) b taken → StaysIn a.call taken.fails_copy b.call
own_stays tag a b reply reply' heards.More taken k f = rw (k, f.0, f.1) refl
own_stays tag a b reply reply' (heards.Yields item) taken k f = rw (k, f.0, f.1) refl
own_stays tag a b reply reply' (heards.Opens opened) taken k f = rw (k, f.0, f.1) refl
own_stays tag a b reply reply' (heards.Failed error) taken k f = rw f.0 tt
own_stays tag a b reply reply' (heards.Closed status) taken k f = rw f.0 tt
own_stays tag a b reply reply' heards.Strays taken k f = rw f.0 tt

-- a row of the own reply that is shown at once, and from which nothing is learnt
pub own_shows : (body : List ℕ) (row : RowSeen) (a : Running) (reply reply' : Reply) → a.call ≡ calls.Own reply → Hears reply reply' 68 body (heards.Yields (Row row)) → looks_up a.call ≡ false → reply'.rest ≡ reply.rest → ShowsRowOf body row a (as_call a.ledger (calls.Own reply'))
own_shows body row a reply reply' k h plain rest =
    let b = as_call a.ledger (calls.Own reply') in
    let same : looks_up (calls.Own reply) ≡ false = subst (λ (c : Call). looks_up c ≡ false) k plain in
    (own_oks 68 body a b reply reply' (heards.Yields (Row row)) (just (beats.Yields (Row row))) k h (refl, refl), own_stays 68 a b reply reply' (heards.Yields (Row row)) (just (beats.Yields (Row row))) k (refl, refl), tt, ap is_look rest ∙ same)

-- any other message of the own reply that shows nothing
pub own_passes_other : (tag : ℕ) (body : List ℕ) (a : Running) (reply reply' : Reply) → a.call ≡ calls.Own reply → Hears reply reply' tag body heards.More → tag ≢ 68 → tag ≢ 71 → PassesOf tag body a (as_call a.ledger (calls.Own reply'))
own_passes_other tag body a reply reply' k h row copy =
    let b = as_call a.ledger (calls.Own reply') in
    (row, copy, own_oks tag body a b reply reply' heards.More (just beats.More) k h (refl, refl), own_stays tag a b reply reply' heards.More (just beats.More) k (refl, refl), tt)

-- the end of the own reply
pub own_ends : (body : List ℕ) (a b : Running) (status : TransactionStatus) (beat : Beat) (call : Call) → a.call ≡ call → ClosesBy status body call → Closes status a b (just beat) → EndsBy body beat a b
own_ends body a b status beat (calls.Own reply) k h closes =
    let same : as_call a.ledger (calls.Own reply) ≡ a = ap (λ (c : Call). as_call a.ledger c) (sym k) in
    let follows : Closes status (as_call a.ledger (calls.Own reply)) b (just beat) = subst (λ (x : Running). Closes status x b (just beat)) (sym same) closes in
    let goes = λ (w : beat ≡ beats.Waits). handed_goes reply.rest reply.parameters reply.heading.columns _ (sym (ap (λ (t : Taken). t.beat) follows.1) ∙ w) in
    (own_oks 90 body a b reply reply (heards.Closed status) (just beat) k h follows, own_stays 90 a b reply reply (heards.Closed status) (just beat) k follows, goes)
own_ends body a b status beat _ k h closes = absurd h

pub closes_replied : (status : TransactionStatus) (body : List ℕ) (call : Call) → ClosesBy status body call → IsReplied call
closes_replied status body (calls.Own reply) h = tt
closes_replied status body _ h = absurd h

-- a row of the own reply that shows nothing, and from which nothing is learnt
pub own_passes : (body : List ℕ) (a : Running) (reply reply' : Reply) → a.call ≡ calls.Own reply → Hears reply reply' 68 body heards.More → looks_up a.call ≡ false → reply'.rest ≡ reply.rest → PassesRowOf body a (as_call a.ledger (calls.Own reply'))
own_passes body a reply reply' k h plain rest =
    let b = as_call a.ledger (calls.Own reply') in
    let same : looks_up (calls.Own reply) ≡ false = subst (λ (c : Call). looks_up c ≡ false) k plain in
    (own_oks 68 body a b reply reply' heards.More (just beats.More) k h (refl, refl), own_stays 68 a b reply reply' heards.More (just beats.More) k (refl, refl), tt, ap is_look rest ∙ same)
