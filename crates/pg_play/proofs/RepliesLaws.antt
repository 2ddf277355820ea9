-- Replies of a server that never copies begin no copy, and what is heard of them answers the groups one by one.
use Rattle.std.proofs.Common.{◌≡◌, ℕ, Bool, true, false, cond, ◌⊎◌, inl, inr, ◌||◌, nat_eq, codes, List, [], ◌∷◌, ◌++◌, length, map, flat_map, refl, sym, ap, ◌∙◌, subst, Option, Some, None}
use Rattle.std.specs.List.{AllByRecursion}
use Rattle.pg_wire.specs.Frame.{Frame, is_known}
use Rattle.pg_wire.specs.Frontend.{FrontendMessage, frontend_frame, HasFrontendFrame, Query, Parse, DescribeStatement, DescribePortal, Bind, Execute, CloseStatement, ClosePortal, Sync, Terminate, CopyData, CopyDone, CopyFail}
use Rattle.pg_wire.specs.Backend.{FieldDescription, Values, BackendMessage, backend_frame, HasBackendFrame, DataRow}
use Rattle.pg_wire.specs.Server.{Server, Statement, ServerStep, Steps, Skips, ServerRun, AreReplies, MayHear, IsPrefixOf, fresh_server, IsSegment, EndsInError, IsQueryResponse, IsPortalResult, DescribesFields, Fails, StepsParse, StepsDescribe, StepsDescribePortal, StepsBind, StepsExecute, StepsClose, StepsSync, statement_at, portal_at}
use Rattle.pg_wire.proofs.SentLaws.{run_total, run_join, said_first}
use Rattle.pg_wire.proofs.RunLaws.{prefix_trans}
use Rattle.std.proofs.lemmas.List.{map-append}
use Rattle.std.proofs.lemmas.List.Concat.{flat_map-append}
use Rattle.pg_stream.specs.Asynchronous.{IsSaid}
use Rattle.pg_play.specs.Plays.{AsksForNoCopy}
use Rattle.pg_wire.proofs.Each.{each_first}

-- a copy begins, from the client or to it
abbrev pub starts_copy : Frame → Bool
starts_copy frame = is_known (codes "GH") frame.tag

abbrev pub StartsNoCopy : Frame → Type 0
StartsNoCopy frame = starts_copy frame ≡ false

abbrev NoCopy : BackendMessage → Type 0
NoCopy m = StartsNoCopy (backend_frame m)

abbrev NoCopies : List BackendMessage → Type 0
NoCopies rs = AllByRecursion NoCopy rs

both : (xs ys : List BackendMessage) → NoCopies xs → NoCopies ys → NoCopies (xs ++ ys)
both [] ys h k = k
both (x ∷ xs) ys h k = (h.0, both xs ys h.1 k)

-- what is known of all of a list is known of its first ones
pub all_prefix : {A : Type 0} (P : A → Type 0) (xs ys : List A) → IsPrefixOf xs ys → AllByRecursion P ys → AllByRecursion P xs
all_prefix P xs ys p h = each_first P xs p.0 (subst (AllByRecursion P) (sym p.1) h)

rows_none : (rows : List Values) → NoCopies (map DataRow rows)
rows_none [] = tt
rows_none (row ∷ rows) = (refl, rows_none rows)

segment_none : (rs : List BackendMessage) → IsSegment rs → NoCopies rs
segment_none rs (inl c) = subst NoCopies (sym c.1) (refl, tt)
segment_none rs (inr (inl t)) = subst NoCopies (sym t.4) (refl, both (map DataRow t.1) _ (rows_none t.1) (refl, tt))
segment_none rs (inr (inr e)) = subst NoCopies (sym e) (refl, tt)

error_none : (P : List BackendMessage → Type 0) → ((rs : List BackendMessage) → P rs → NoCopies rs) → (rs : List BackendMessage) → EndsInError P rs → NoCopies rs
error_none P f rs e = subst NoCopies (sym e.5) (both e.0 _ (each_first NoCopy e.0 e.1 (f (e.0 ++ e.1) e.3)) (refl, tt))

segments_none : (rss : List (List BackendMessage)) → AllByRecursion IsSegment rss → NoCopies (flat_map (λ rs. rs) rss)
segments_none [] h = tt
segments_none (rs ∷ rss) h = both rs (flat_map (λ rs. rs) rss) (segment_none rs h.0) (segments_none rss h.1)

last_none : (rs : List BackendMessage) → IsSegment rs ⊎ EndsInError IsSegment rs → NoCopies rs
last_none rs (inl s) = segment_none rs s
last_none rs (inr e) = error_none IsSegment segment_none rs e

query_none : (rs : List BackendMessage) → IsQueryResponse rs → NoCopies rs
query_none rs q = subst NoCopies (sym q.are) (both _ _ (both (flat_map (λ segment. segment) q.before) q.last (segments_none q.before q.whole) (last_none q.last q.ends)) (refl, tt))

portal_none : (width : ℕ) (rs : List BackendMessage) → IsPortalResult width rs → NoCopies rs
portal_none width rs (rows, wide, inl c) = subst NoCopies (sym c.1) (both (map DataRow rows) _ (rows_none rows) (refl, tt))
portal_none width rs (rows, wide, inr c) = subst NoCopies (sym c) (both (map DataRow rows) _ (rows_none rows) (refl, tt))

fails_none : (old new : Server) (rs : List BackendMessage) → Fails old rs new → NoCopies rs
fails_none old new rs f = subst NoCopies (sym f.1) (refl, tt)

describes_none : (fields : List FieldDescription) (a : BackendMessage) → DescribesFields fields a → NoCopy a
describes_none fields a (inl e) = ap (λ (m : BackendMessage). starts_copy (backend_frame m)) e
describes_none fields a (inr e) = ap (λ (m : BackendMessage). starts_copy (backend_frame m)) e.1

parse_none : (old new : Server) (name sql : List ℕ) (rs : List BackendMessage) → StepsParse old name sql rs new → NoCopies rs
parse_none old new name sql rs (inl h) = subst NoCopies (sym h.2) (refl, tt)
parse_none old new name sql rs (inr f) = fails_none old new rs f

describe_none : (old new : Server) (o : Option Statement) (rs : List BackendMessage) → StepsDescribe old o rs new → NoCopies rs
describe_none old new None rs f = fails_none old new rs f
describe_none old new (Some s) rs (inl h) = subst NoCopies (sym h.3) (refl, (describes_none s.fields h.1 h.2, tt))
describe_none old new (Some s) rs (inr f) = fails_none old new rs f

describe_portal_none : (old new : Server) (o : Option (List FieldDescription)) (rs : List BackendMessage) → StepsDescribePortal old o rs new → NoCopies rs
describe_portal_none old new None rs f = fails_none old new rs f
describe_portal_none old new (Some fields) rs (inl h) = subst NoCopies (sym h.2) (describes_none fields h.0 h.1, tt)
describe_portal_none old new (Some fields) rs (inr f) = fails_none old new rs f

bind_none : (old new : Server) (o : Option Statement) (rs : List BackendMessage) → StepsBind old o rs new → NoCopies rs
bind_none old new None rs f = fails_none old new rs f
bind_none old new (Some s) rs (inl h) = subst NoCopies (sym h.0) (refl, tt)
bind_none old new (Some s) rs (inr f) = fails_none old new rs f

execute_none : (old new : Server) (o : Option (List FieldDescription)) (rs : List BackendMessage) → StepsExecute old o rs new → NoCopies rs
execute_none old new None rs f = fails_none old new rs f
execute_none old new (Some fields) rs (inl h) = portal_none (length fields) rs h.0
execute_none old new (Some fields) rs (inr h) = error_none (IsPortalResult (length fields)) (portal_none (length fields)) rs h.0

close_none : (old closed new : Server) (rs : List BackendMessage) → StepsClose old closed rs new → NoCopies rs
close_none old closed new rs (inl h) = subst NoCopies (sym h.0) (refl, tt)
close_none old closed new rs (inr f) = fails_none old new rs f

sync_none : (old new : Server) (rs : List BackendMessage) → StepsSync old rs new → NoCopies rs
sync_none old new rs (status, is, inl e) = subst NoCopies (sym e) (refl, tt)
sync_none old new rs (status, is, inr e) = subst NoCopies (sym e.1) (refl, (refl, tt))

empty_none : (rs : List BackendMessage) → rs ≡ [] → NoCopies rs
empty_none rs e = subst NoCopies (sym e) tt

plain_none : (old new : Server) (m : FrontendMessage) (rs : List BackendMessage) → Steps old m rs new → NoCopies rs
plain_none old new (Query sql) rs h = query_none rs h.0
plain_none old new (Parse name sql types) rs h = parse_none old new name sql rs h
plain_none old new (DescribeStatement name) rs h = describe_none old new (statement_at old name) rs h
plain_none old new (DescribePortal name) rs h = describe_portal_none old new (portal_at old name) rs h
plain_none old new (Bind name values) rs h = bind_none old new (statement_at old name) rs h
plain_none old new (Execute name limit) rs h = execute_none old new (portal_at old name) rs h
plain_none old new (CloseStatement name) rs h = close_none old _ new rs h
plain_none old new (ClosePortal []) rs h = close_none old _ new rs h
plain_none old new (ClosePortal (b ∷ bs)) rs h = close_none old _ new rs h
plain_none old new Sync rs h = sync_none old new rs h
plain_none old new Terminate rs h = empty_none rs h.0
plain_none old new (CopyData bytes) rs h = empty_none rs h.0
plain_none old new CopyDone rs h = empty_none rs h.0
plain_none old new (CopyFail text) rs h = empty_none rs h.0

skips_none : (old new : Server) (m : FrontendMessage) (rs : List BackendMessage) → Skips old m rs new → NoCopies rs
skips_none old new Sync rs h = sync_none old new rs h
skips_none old new Terminate rs h = empty_none rs h.0
skips_none old new _ rs h = empty_none rs h.0

step_none : (old new : Server) (m : FrontendMessage) (rs : List BackendMessage) → ServerStep old m rs new → NoCopies rs
step_none old new m rs h = by old.over old.skip h
  where
    by : (over skip : Bool) → cond over ((rs ≡ []) × (new ≡ old)) (cond skip (Skips old m rs new) (Steps old m rs new)) → NoCopies rs
    by true skip h = empty_none rs h.0
    by false true h = skips_none old new m rs h
    by false false h = plain_none old new m rs h

run_none : (old new : Server) (ms : List FrontendMessage) (rss : List (List BackendMessage)) → ServerRun old ms rss new → NoCopies (flat_map (λ rs. rs) rss)
run_none old new [] [] h = tt
run_none old new [] (rs ∷ rss) h = absurd h
run_none old new (m ∷ ms) [] h = absurd h
run_none old new (m ∷ ms) (rs ∷ rss) h = both rs (flat_map (λ rs. rs) rss) (step_none old h.0 m rs h.1) (run_none h.0 new ms rss h.2)

-- what is known of each message of the replies is known of each frame heard of them
heard_of : (P : BackendMessage → Type 0) (Q : Frame → Type 0) → ((m : BackendMessage) → P m → Q (backend_frame m)) → (heard : List Frame) (rest : List Frame) (rs : List BackendMessage) → heard ++ rest ≡ map backend_frame rs → AllByRecursion P rs → AllByRecursion Q heard
heard_of P Q f [] rest rs e h = tt
heard_of P Q f (x ∷ xs) rest [] e h = absurd cc
heard_of P Q f (x ∷ xs) rest (r ∷ rs) e h =
    let head : x ≡ backend_frame r = cc in
    let tails : xs ++ rest ≡ map backend_frame rs = cc in
    (subst Q (sym head) (f r h.0), heard_of P Q f xs rest rs tails h.1)

-- no reply of a server that never copies begins a copy
pub replies_start_no_copy : (ms : List FrontendMessage) (heard : List Frame) → MayHear ms heard → AllByRecursion StartsNoCopy heard
replies_start_no_copy ms heard l = heard_of NoCopy StartsNoCopy (λ m h. h) heard l.heard_is.0 (flat_map (λ rs. rs) l.replies) l.heard_is.1 (run_none fresh_server l.after (ms ++ l.more) l.replies l.run)

-- nor does it ask for one
pub asks_for_none : (frames : List Frame) → AllByRecursion StartsNoCopy frames → AsksForNoCopy frames
asks_for_none [] h = tt
asks_for_none (f ∷ fs) h = (first_false (nat_eq f.tag 71) (nat_eq f.tag 72) h.0, asks_for_none fs h.1)
  where
    first_false : (a b : Bool) → (a || (b || false)) ≡ false → (a || false) ≡ false
    first_false false b e = refl
    first_false true b e = absurd cc

-- each frame heard is a message in its format
pub replies_are_said : (ms : List FrontendMessage) (heard : List Frame) → MayHear ms heard → AllByRecursion IsSaid heard
replies_are_said ms heard l = heard_of HasBackendFrame IsSaid (λ m h. (m, (h, refl))) heard l.heard_is.0 (flat_map (λ rs. rs) l.replies) l.heard_is.1 l.replies_have_frames

all_frames : (xs ys : List BackendMessage) → AllByRecursion HasBackendFrame xs → AllByRecursion HasBackendFrame ys → AllByRecursion HasBackendFrame (xs ++ ys)
all_frames [] ys h k = k
all_frames (x ∷ xs) ys h k = (h.0, all_frames xs ys h.1 k)

-- replies to the first messages are replies to all of them
pub replies_to_all : (messages : List FrontendMessage) (sent heard : List Frame) → AllByRecursion HasFrontendFrame messages → IsPrefixOf sent (map frontend_frame messages) → AreReplies sent heard → AreReplies (map frontend_frame messages) heard
replies_to_all messages sent heard h p r =
    let front = said_first r.messages messages r.messages_have_frames h (p.0, ap (λ (t : List Frame). t ++ p.0) (sym r.sent_is) ∙ p.1) in
    let further = run_total r.after front.0 in
    let joined : flat_map (λ rs. rs) (r.replies ++ further.0) ≡ flat_map (λ rs. rs) r.replies ++ flat_map (λ rs. rs) further.0 = flat_map-append (λ rs. rs) r.replies further.0 in
    record {
      messages = messages;
      replies = r.replies ++ further.0;
      after = further.1;
      messages_have_frames = h;
      sent_is = refl;
      run = subst (λ (s : List FrontendMessage). ServerRun fresh_server s (r.replies ++ further.0) further.1) front.1 (run_join fresh_server r.after further.1 r.messages front.0 r.replies further.0 r.run further.2);
      replies_have_frames = subst (AllByRecursion HasBackendFrame) (sym joined) (all_frames _ _ r.replies_have_frames further.3);
      heard_is = prefix_trans heard _ _ r.heard_is (map backend_frame (flat_map (λ rs. rs) further.0), sym (map-append backend_frame (flat_map (λ rs. rs) r.replies) (flat_map (λ rs. rs) further.0)) ∙ ap (map backend_frame) (sym joined));
    }
