-- What an outcome tells, and the numbers in it.
use Rattle.std.proofs.Common.{◌≡◌, ℕ, ◌+◌, ◌-◌, ◌^◌, ◌≤◌, Bool, true, false, nat_le, ◌⊎◌, inl, inr, List, [], ◌∷◌, ◌++◌, length, map, refl, sym, ap, ◌∙◌, subst, arith, append_assoc, append-nil, replicate, Option, Some, None, Ok, Err, MatchBool}
use Rattle.std.specs.List.{count_by}
use Rattle.std.proofs.lemmas.Bool.{le-leb}
use Rattle.std.proofs.lemmas.List.{length-append, map-append, nil_from_length}
use Rattle.pg_wire.specs.declared.error.Error.{Error}
use Rattle.pg_wire.specs.declared.error.Error.TheVariants as errors
use Rattle.pg_wire.specs.declared.error.ProtocolFault.TheVariants as protocol
use Rattle.pg_wire.specs.declared.error.ServerFault.{ServerFault}
use Rattle.pg_wire.specs.Frame.{Frame}
use Rattle.pg_wire.specs.Parts.{heard}
use Rattle.pg_wire.specs.Frontend.{FrontendMessage}
use Rattle.pg_wire.specs.Backend.{BackendMessage, backend_frame}
use Rattle.pg_wire.specs.Server.{IsPrefixOf}
use Rattle.pg_wire.proofs.PartLaws.{heard-append}
use Rattle.pg_stream.specs.Links.{GrewBy}
use Rattle.pg_stream.specs.Streams.{StreamSeen}
use Rattle.pg_call.specs.declared.request.Request.{Request}
use Rattle.pg_call.specs.declared.answer.CallItem.{CallItem}
use Rattle.pg_call.specs.declared.answer.CallAnswer.{CallAnswer}
use Rattle.pg_call.specs.declared.ledger.Ledger.{Ledger}
use Rattle.pg_call.specs.Requests.{Group, said_in, kind_of, groups_of, copy_fail, heading_of}
use Rattle.pg_call.specs.Items.{own_items, shown}
use Rattle.pg_call.specs.Drains.{after_readys}
use Rattle.pg_call.specs.Hearing.{fails_of}
use Rattle.pg_call.specs.Calls.{IsFine, CallEnds, answer_by}
use Rattle.pg_conn.specs.Connections.{ConnSeen, Standing}
use Rattle.pg_conn.specs.Turns.{ends_request}
use Rattle.pg_report.specs.declared.outcome.Item.{Item}
use Rattle.pg_report.specs.declared.outcome.Answer.{Answer}
use Rattle.pg_report.specs.declared.outcome.End.{End}
use Rattle.pg_report.specs.declared.outcome.End.TheVariants as ends
use Rattle.pg_report.specs.declared.outcome.Outcome.{Outcome}
use Rattle.pg_script.specs.declared.step.Call.{Call}
use Rattle.pg_script.specs.declared.step.Step.{Step}
use Rattle.pg_learning.specs.declared.learnt.Learnt.{Learnt}
use Rattle.pg_conn.specs.Looking.{Learns}
use Rattle.pg_play.specs.Shown.{request_of, items_in, shown_by, answered_by, waits_to_show, item_of, items_with, answer_of}
use Rattle.pg_play.specs.Calls.{Bounds, Went, EndsOn, Counted, asking, all_groups, AnswersBy}
use Rattle.pg_request.specs.declared.progress.CacheStep.TheVariants as cache
use Rattle.pg_play.specs.Places.{Place, ended, main_frames, response_within, drained, unfed, is_fine, refuses_copy, Queues, queued_by, Queued}
use Rattle.pg_play.specs.Told.{Carry, HasNoError, IsWell, WellAtOk, AnswersError, Told, Numbers}
use Rattle.pg_play.specs.Plays.{StandsAt}
use Rattle.pg_play.proofs.PartLaws.{nth_part, no_error}
use Rattle.pg_play.proofs.StepLaws.{Summary, QueuedOwn, own_part, own_is_part, fine_summary}
use Rattle.pg_conn.proofs.OwedLaws.{counts-append, no_groups}
use Rattle.pg_play.proofs.PlaceLaws.{ShowsItems, next_place, ended_next, said_is_queued, requests_failed, requests_own}
use Rattle.pg_play.proofs.ShownLaws.{items_told, waits_none, shown_front, all_told, answer_told, has_row}

-- ---- the own response

-- by its number it is the one behind what is owed
within_is : (before number p : ℕ) (slice : List Frame) → before + p ≡ number → nat_le before number ≡ true → response_within before slice number ≡ nth_part p slice
within_is before number p slice e le =
    let n : number - before ≡ p = omega (arith, e) in
    rw (le, n) refl

pub main_is : (start : StreamSeen) (at : Place) (a : ConnSeen) (own : List Group) (hs : List Frame) → StandsAt start at a → length own ≤ 1 → main_frames at own hs ≡ own_part a.ledger.owed own hs
main_is start at a [] hs s n = refl
main_is start at a (g ∷ []) hs s n =
    let e : ended at + a.ledger.owed ≡ length at.groups + 0 = omega (arith, s.ledger) in
    within_is (ended at) (length at.groups + 0) a.ledger.owed hs e (le-leb _ _ (omega (arith, e)))
main_is start at a (g ∷ h ∷ gs) hs s n = absurd (omega (arith, n))

pub at_most_one : (p : ℕ) (r : Request) (own : List Group) (hs : List Frame) → (own ≡ []) ⊎ QueuedOwn p r own hs → length own ≤ 1
at_most_one p r own hs (inl e) = omega (arith, ap (λ (g : List Group). length g) e)
at_most_one p r own hs (inr q) = omega (arith, q.one)

pub main_after : (start : StreamSeen) (at : Place) (a : ConnSeen) (r : Request) (own : List Group) (hs : List Frame) → StandsAt start at a → QueuedOwn a.ledger.owed r own hs → main_frames at own hs ≡ after_readys a.ledger.owed hs
main_after start at a r own hs st q = main_is start at a own hs st (omega (arith, q.one)) ∙ own_is_part a.ledger.owed own hs q.one ∙ q.part

pub queued_one : (p : ℕ) (r : Request) (own : List Group) (hs : List Frame) → (own ≡ []) ⊎ QueuedOwn p r own hs → length own ≡ 1 → QueuedOwn p r own hs
queued_one p r own hs (inl e) n = absurd (omega (arith, n, ap (λ (g : List Group). length g) e))
queued_one p r own hs (inr q) n = q

-- ---- the request rule

-- a call that came to its end queued all
pub fine_own : (start : Ledger) (r : Request) (said : List FrontendMessage) (hs : List Frame) (items items' : List CallItem) (ledger : Ledger) (copied : Bool) (s : Summary start r said hs items' ledger copied) → IsFine start r said hs items ledger → s.own ≡ groups_of r
fine_own start r said hs items items' ledger copied s f = elim s.queued [
  | inl e ↦ e ∙ sym (nil_from_length (groups_of r) (omega (arith, s.counted, f.counted, f.owes, ap (λ (g : List Group). length g) e)))
  | inr q ↦ q.own_is
]

prefix_queued : (p : ℕ) (r : Request) (own : List Group) (hs : List Frame) → (own ≡ []) ⊎ QueuedOwn p r own hs → IsPrefixOf own (groups_of r)
prefix_queued p r own hs (inl e) = (groups_of r, ap (λ (g : List Group). g ++ groups_of r) e)
prefix_queued p r own hs (inr q) = ([], append-nil own ∙ q.own_is)

asks_by : (o : Option ServerFault) (limits : Bounds) (first : StreamSeen) (a b : ConnSeen) (r : Request) (said : List FrontendMessage) (hs : List Frame) (shown : List Item) (end : End) (items : List CallItem) (copied : Bool) → EndsOn o limits first a b r said hs shown end
    → (s : Summary a.ledger r said hs items b.ledger copied) → Queues end (groups_of r) s.own
asks_by None limits first a b r said hs shown (ends.Ok told) items copied h s = fine_own a.ledger r said hs h.0 items b.ledger copied s h.5.0
asks_by None limits first a b r said hs shown (ends.Err e) items copied h s = prefix_queued a.ledger.owed r s.own hs s.queued
asks_by None limits first a b r said hs shown ends.Dropped items copied h s = prefix_queued a.ledger.owed r s.own hs s.queued
asks_by (Some fault) limits first a b r said hs shown end items copied h s = rw h.0 (prefix_queued a.ledger.owed r s.own hs s.queued)

pub queued_step : (o : Option ServerFault) (limits : Bounds) (start first : StreamSeen) (old : Counted) (at : Place) (a b : ConnSeen) (step : Step) (out : Outcome) (said : List FrontendMessage) (fs : List Frame) (shown : List Item) (items : List CallItem) → StandsAt start at a
    → EndsOn o limits first (asking (request_of at.rule.depth step.call) old a) b (request_of at.rule.depth step.call) said (heard fs) shown out.end → (s : Summary a.ledger (request_of at.rule.depth step.call) said (heard fs) items b.ledger (refuses_copy out.end)) → Learns (heard fs) a.learnt b.learnt → Queued at step out s.own (heard fs) (next_place at b said s.own fs out.end)
queued_step o limits start first old at a b step out said fs shown items st h s l = record {
  asks = asks_by o limits first (asking (request_of at.rule.depth step.call) old a) b (request_of at.rule.depth step.call) said (heard fs) shown out.end items (refuses_copy out.end) h s;
  can = λ n. elim s.queued [
    | inl e ↦ absurd (n e)
    | inr q ↦ q.can
  ];
  said = ap (λ (x : List FrontendMessage). at.said ++ x) (said_is_queued start at a (request_of at.rule.depth step.call) said (heard fs) items b.ledger out.end st s);
  groups = refl;
  rule = refl;
  learns = subst (λ (x : Learnt). Learns (heard fs) x b.learnt) st.learnt l;
  taken = heard-append at.frames fs;
  failed = refl;
  broken = refl;
  unfailed = refl;
  in_turn = λ n. elim s.queued [
    | inl e ↦ absurd (n e)
    | inr q ↦ omega (arith, st.ledger, q.one, q.read, ended_next at fs, length-append at.groups s.own)
  ];
}

-- ---- the numbers

all_ask : (at : Place) (p : ℕ) (d : ℕ) (call : Call) (own : List Group) (hs : List Frame) (end : End) (said : List FrontendMessage) → (own ≡ []) ⊎ QueuedOwn p (request_of d call) own hs → said ≡ queued_by at own hs end → count_by ends_request said ≡ length own
all_ask at p d call own hs end said q e =
    let n = unfed at.is_copy_failed (drained at hs) in
    ap (λ (m : List FrontendMessage). count_by ends_request m) e ∙ counts-append (replicate n copy_fail ++ said_in own) (fails_of (refuses_copy end))
    ∙ omega (arith, counts-append (replicate n copy_fail) (said_in own), requests_failed n, no_groups (refuses_copy end), requests_own p d call own hs q)

-- what is told of an exchange
abbrev pub told_of : List Item → End → (groups heard waits moved : ℕ) → Outcome
told_of shown end groups heard waits moved = record { items = shown; end = end; groups = groups; heard = heard; cache = cache.Same; waits = waits; moved = moved }

-- the connection counts the numbers of an outcome on
pub record CountsOn (old : Counted) (m : ConnSeen) (told : Outcome) : Type 0 where
  -- groups are counted anew in each exchange, behind those of the exchanges before it
  pub groups : GrewBy told.groups 0 m.groups
  pub behind : m.earlier ≡ old.groups
  pub fits : old.groups ≤ 2 ^ 64 - 1
  pub heard : GrewBy told.heard old.heard m.heard
  pub waits : GrewBy told.waits old.waits m.stream.waits
  pub moved : GrewBy told.moved old.moves m.stream.moves

-- and all of them behind these
pub all_counted : (old : Counted) (m : ConnSeen) (told : Outcome) → CountsOn old m told → GrewBy told.groups old.groups (all_groups m)
all_counted old m told c = let g = c.groups in let b = c.behind in let f = c.fits in omega (arith, g, b, f)

pub numbers_step : (start : StreamSeen) (old : Counted) (at : Place) (a b : ConnSeen) (d : ℕ) (call : Call) (said : List FrontendMessage) (fs : List Frame) (shown : List Item) (end : End) (own : List Group) → StandsAt start at a → (w : Went (asking (request_of d call) old a) b said fs)
    → Numbers at (told_of shown end (length own) (length (heard fs)) (w.tallies.write_waits + w.tallies.read_waits) w.tallies.moved) own (heard fs) (next_place at b said own fs end)
numbers_step start old at a b d call said fs shown end own st w =
    let t = w.tallies in
    record {
      groups = refl;
      heard = refl;
      cache = refl;
      write_waits = t.write_waits;
      read_waits = t.read_waits;
      moves = t.moved;
      waits = refl;
      moved = refl;
      writes = rw (← st.seen) t.writes;
      reads = rw (← st.seen) t.reads;
      moving = rw (← st.seen) t.moving;
    }

pub counts_on : (start : StreamSeen) (old : Counted) (at : Place) (a b : ConnSeen) (d : ℕ) (call : Call) (said : List FrontendMessage) (fs : List Frame) (shown : List Item) (end : End) (items : List CallItem) → StandsAt start at a → old.groups ≤ 2 ^ 64 - 1 → (w : Went (asking (request_of d call) old a) b said fs)
    → (s : Summary a.ledger (request_of d call) said (heard fs) items b.ledger (refuses_copy end)) → CountsOn old b (told_of shown end (length s.own) (length (heard fs)) (w.tallies.write_waits + w.tallies.read_waits) w.tallies.moved)
counts_on start old at a b d call said fs shown end items st fits w s =
    let asked = all_ask at a.ledger.owed d call s.own (heard fs) end said s.queued (said_is_queued start at a (request_of d call) said (heard fs) items b.ledger end st s) in
    record {
      groups = subst (λ (n : ℕ). GrewBy n 0 b.groups) asked w.groups;
      behind = ap (λ (x : Standing). x.earlier) w.started.3;
      fits = fits;
      heard = w.heard;
      waits = w.tallies.waits;
      moved = w.tallies.moves;
    }

-- ---- what is told

pub answers_error : (a b : ConnSeen) (r : Request) (said : List FrontendMessage) (hs : List Frame) (items : List CallItem) (o : Ledger) (e : Error) → CallEnds a.ledger r said hs items o (Err e) → AnswersError (ends.Err e) hs
answers_error a b r said hs items o (errors.Database details) h = inr (h.1.0, details, no_error h.1.0 h.1.3, h.1.1, refl)
answers_error a b r said hs items o errors.RowNotFound h = inl (no_error hs h.0.well)
answers_error a b r said hs items o (errors.BeginFailed status) h = inl (no_error hs h.0.well)
answers_error a b r said hs items o (errors.Protocol (protocol.Reply tag)) h = inl (no_error hs h.1)
answers_error a b r said hs items o (errors.Protocol (protocol.Caller fault)) h = inl (subst HasNoError (sym h.1) tt)
answers_error a b r said hs items o (errors.Protocol _) h = absurd h
answers_error a b r said hs items o _ h = absurd h

error_by : (o : Option ServerFault) (limits : Bounds) (first : StreamSeen) (a b : ConnSeen) (r : Request) (said : List FrontendMessage) (hs : List Frame) (shown : List Item) (end : End) → EndsOn o limits first a b r said hs shown end → AnswersError end hs
error_by None limits first a b r said hs shown (ends.Ok told) h = inl (no_error hs h.5.0.well)
error_by None limits first a b r said hs shown (ends.Err e) (inl (items, k, l, inl h)) = answers_error a b r said hs items b.ledger e h
error_by None limits first a b r said hs shown (ends.Err e) (inl (items, k, l, inr (left, well, fails))) = inl (no_error hs well)
error_by None limits first a b r said hs shown (ends.Err e) (inr (items, k, z, f)) = inl (no_error hs f.well)
error_by None limits first a b r said hs shown ends.Dropped h = inl (no_error hs h.3)
error_by (Some fault) limits first a b r said hs shown end h = inl (subst HasNoError (sym h.2) tt)

-- the own response of a call that came to its end
pub fine_carries : (start : StreamSeen) (at : Place) (a : ConnSeen) (d : ℕ) (call : Call) (said : List FrontendMessage) (hs : List Frame) (items items' : List CallItem) (ledger : Ledger) (copied : Bool) → StandsAt start at a → (s : Summary a.ledger (request_of d call) said hs items' ledger copied)
    → (f : IsFine a.ledger (request_of d call) said hs items ledger) → (response : List BackendMessage) × Carry (main_frames at s.own hs) response × (own_items (request_of d call) response ≡ own_items (request_of d call) f.reply)
fine_carries start at a d call said hs items items' ledger copied st s f = elim s.queued [
  | inr q ↦ (f.reply, (main_after start at a (request_of d call) s.own hs st q ∙ f.replied, f.reply_has_frames), refl)
  | inl e ↦
      let mine = (fine_summary a.ledger d call said hs items ledger f) in
      let none : mine.0.own ≡ [] = mine.1 ∙ sym (fine_own a.ledger (request_of d call) said hs items items' ledger copied s f) ∙ e in
      let empty : map backend_frame mine.0.reply ≡ [] = sym mine.0.replied ∙ ap (λ (g : List Group). own_part a.ledger.owed g hs) none in
      ([], (ap (λ (g : List Group). main_frames at g hs) e, tt), sym (ap (own_items (request_of d call)) (nothing mine.0.reply empty)) ∙ mine.2)
]
  where
    nothing : (ms : List BackendMessage) → map backend_frame ms ≡ [] → ms ≡ []
    nothing [] e = refl
    nothing (m ∷ ms) e = absurd cc

well_by : (start : StreamSeen) (at : Place) (a b : ConnSeen) (step : Step) (out : Outcome) (said : List FrontendMessage) (fs : List Frame) (items items' : List CallItem) (answer : CallAnswer) (told : Answer) (response : List BackendMessage) (copied : Bool) → StandsAt start at a
    → (s : Summary a.ledger (request_of at.rule.depth step.call) said (heard fs) items' b.ledger copied) → (f : IsFine a.ledger (request_of at.rule.depth step.call) said (heard fs) items b.ledger) → AnswersBy (answer_by (request_of at.rule.depth step.call) f.reply f.status) (Ok answer)
    → out.items ≡ items_with (map item_of items) answer → told ≡ answer_of answer → own_items (request_of at.rule.depth step.call) response ≡ own_items (request_of at.rule.depth step.call) f.reply → b.stream.unsent ≡ [] → IsWell step out told response (heard fs) (next_place at b said s.own fs out.end)
well_by start at a b step out said fs items items' answer told response copied st s f e k t same sent =
    let xs = own_items (request_of at.rule.depth step.call) f.reply in
    let items_same : items_in response ≡ map item_of xs = items_told (heading_of (request_of at.rule.depth step.call)) response ∙ ap (map item_of) same in
    record {
      items = k ∙ ap (λ (x : List CallItem). items_with (map item_of x) answer) f.items_are ∙ all_told at.rule.depth step.call f.reply f.status answer e ∙ ap (shown_by step.call) (sym items_same);
      answers = t ∙ answer_told at.rule.depth step.call f.reply f.status answer e ∙ ap (answered_by step.call) (sym items_same);
      row = λ w z. has_row at.rule.depth step.call f.reply f.status answer (map item_of items) e w (sym k ∙ z);
      no_error = no_error (heard fs) f.well;
      answered = omega (arith, st.ledger, s.counted, f.owes, ended_next at fs, length-append at.groups s.own);
      ready = f.ends;
      sent = sent;
    }

told_ok : (limits : Bounds) (start first : StreamSeen) (old : Counted) (at : Place) (a b : ConnSeen) (step : Step) (out : Outcome) (said : List FrontendMessage) (fs : List Frame) (items' : List CallItem) (told : Answer) (copied : Bool) → StandsAt start at a → out.end ≡ ends.Ok told
    → EndsOn None limits first (asking (request_of at.rule.depth step.call) old a) b (request_of at.rule.depth step.call) said (heard fs) out.items (ends.Ok told) → (s : Summary a.ledger (request_of at.rule.depth step.call) said (heard fs) items' b.ledger copied) → Told at step out s.own (heard fs) (next_place at b said s.own fs out.end)
told_ok limits start first old at a b step out said fs items' told copied st e h s =
    let f = h.5.0 in
    let carried = fine_carries start at a at.rule.depth step.call said (heard fs) h.0 items' b.ledger copied st s f in
    let well = well_by start at a b step out said fs h.0 items' h.1 told carried.0 copied st s f h.5.1 h.2 h.4 carried.2 h.6 in
    record {
      response = carried.0;
      says = carried.1;
      shows = ([], append-nil out.items ∙ well.items);
      with_answer = λ w n. let x = sym (ap is_fine e) ∙ n in absurd cc;
      well = λ m. subst (λ (z : End). WellAtOk z step out carried.0 (heard fs) (next_place at b said s.own fs out.end)) (sym e) well;
      error = subst (λ (z : End). AnswersError z (heard fs)) (sym e) (error_by None limits first (asking (request_of at.rule.depth step.call) old a) b (request_of at.rule.depth step.call) said (heard fs) out.items (ends.Ok told) h);
    }

not_well : (end : End) (step : Step) (out : Outcome) (response : List BackendMessage) (hs : List Frame) (next : Place) → is_fine end ≡ false → WellAtOk end step out response hs next
not_well (ends.Ok told) step out response hs next e = absurd cc
not_well (ends.Err x) step out response hs next e = tt
not_well ends.Dropped step out response hs next e = tt

shows_by : (d : ℕ) (call : Call) (out_items : List Item) (items : List CallItem) (reply : List BackendMessage) → IsPrefixOf items (shown (kind_of (request_of d call)) (own_items (request_of d call) reply)) → (out_items ≡ map item_of items) ⊎ (out_items ≡ [])
    → IsPrefixOf out_items (shown_by call (items_in reply)) × (waits_to_show call ≡ true → out_items ≡ [])
shows_by d call out_items items reply p (inr e) = ((shown_by call (items_in reply), ap (λ (x : List Item). x ++ shown_by call (items_in reply)) e), λ w. e)
shows_by d call out_items items reply p (inl e) =
    let front = shown_front d call (own_items (request_of d call) reply) in
    let all : map item_of items ++ map item_of p.0 ≡ map item_of (shown (kind_of (request_of d call)) (own_items (request_of d call) reply)) = sym (map-append item_of items p.0) ∙ ap (map item_of) p.1 in (
      (
        map item_of p.0 ++ front.0,
        ap (λ (x : List Item). x ++ (map item_of p.0 ++ front.0)) e ∙ sym (append_assoc (map item_of items) (map item_of p.0) front.0) ∙ ap (λ (x : List Item). x ++ front.0) all ∙ front.1 ∙ ap (shown_by call) (sym (items_told (heading_of (request_of d call)) reply)),
      ),
      λ w. e ∙ ap (map item_of) (first_none items p.0 (p.1 ∙ waits_none d call (own_items (request_of d call) reply) w)),
    )
  where
    first_none : (xs ys : List CallItem) → xs ++ ys ≡ [] → xs ≡ []
    first_none [] ys e = refl
    first_none (x ∷ xs) ys e = absurd cc

told_other : (o : Option ServerFault) (limits : Bounds) (start first : StreamSeen) (old : Counted) (at : Place) (a b : ConnSeen) (step : Step) (out : Outcome) (said : List FrontendMessage) (fs : List Frame) (items : List CallItem) → StandsAt start at a → is_fine out.end ≡ false
    → EndsOn o limits first (asking (request_of at.rule.depth step.call) old a) b (request_of at.rule.depth step.call) said (heard fs) out.items out.end → (s : Summary a.ledger (request_of at.rule.depth step.call) said (heard fs) items b.ledger (refuses_copy out.end)) → ShowsItems out.end out.items items → Told at step out s.own (heard fs) (next_place at b said s.own fs out.end)
told_other o limits start first old at a b step out said fs items st n h s k =
    let shows = shows_by at.rule.depth step.call out.items items s.reply s.shows (subst (λ (t : Bool). MatchBool t (Unit {0}) ((out.items ≡ map item_of items) ⊎ (out.items ≡ []))) n k) in
    record {
      response = s.reply;
      says = (main_is start at a s.own (heard fs) st (at_most_one a.ledger.owed (request_of at.rule.depth step.call) s.own (heard fs) s.queued) ∙ s.replied, s.reply_has_frames);
      shows = shows.0;
      with_answer = λ w z. shows.1 w;
      well = λ m. not_well out.end step out s.reply (heard fs) (next_place at b said s.own fs out.end) n;
      error = error_by o limits first (asking (request_of at.rule.depth step.call) old a) b (request_of at.rule.depth step.call) said (heard fs) out.items out.end h;
    }

pub told_step : (o : Option ServerFault) (limits : Bounds) (start first : StreamSeen) (old : Counted) (at : Place) (a b : ConnSeen) (step : Step) (out : Outcome) (said : List FrontendMessage) (fs : List Frame) (items : List CallItem) → StandsAt start at a
    → EndsOn o limits first (asking (request_of at.rule.depth step.call) old a) b (request_of at.rule.depth step.call) said (heard fs) out.items out.end → (s : Summary a.ledger (request_of at.rule.depth step.call) said (heard fs) items b.ledger (refuses_copy out.end)) → ShowsItems out.end out.items items → Told at step out s.own (heard fs) (next_place at b said s.own fs out.end)
told_step o limits start first old at a b step out said fs items st h s k = by o out.end refl h refl
  where
    by : (p : Option ServerFault) (end : End) → out.end ≡ end → EndsOn p limits first (asking (request_of at.rule.depth step.call) old a) b (request_of at.rule.depth step.call) said (heard fs) out.items end → o ≡ p → Told at step out s.own (heard fs) (next_place at b said s.own fs out.end)
    by None (ends.Ok told) e g w = told_ok limits start first old at a b step out said fs items told (refuses_copy out.end) st e g s
    by None (ends.Err x) e g w = told_other o limits start first old at a b step out said fs items st (ap is_fine e) h s k
    by None ends.Dropped e g w = told_other o limits start first old at a b step out said fs items st (ap is_fine e) h s k
    by (Some fault) end e g w = told_other o limits start first old at a b step out said fs items st (ap is_fine (e ∙ g.0)) h s k
