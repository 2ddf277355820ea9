-- Replies to the frames sent so far may reach a client that has queued these and more.
use Rattle.std.proofs.Common.{◌≡◌, ℕ, Bool, true, false, cond, List, [], ◌∷◌, ◌++◌, map, Option, Some, None, refl, sym, ap, ap₂, ◌∙◌, subst, append_assoc, append-nil, flat_map, inl, inr}
use Rattle.std.specs.List.{AllByRecursion}
use Rattle.std.proofs.lemmas.List.Concat.{flat_map-append}
use Rattle.std.proofs.lemmas.List.{map-append}
use Rattle.pg_wire.specs.Frame.{Frame, bytes_of, text_of, IsWhole}
use Rattle.pg_wire.specs.Cut.{Cuts}
use Rattle.pg_wire.specs.Frontend.{FrontendMessage, frontend_frame, HasFrontendFrame, Query, Parse, DescribeStatement, DescribePortal, Bind, Execute, CloseStatement, ClosePortal, Sync, Terminate}
use Rattle.pg_wire.specs.Backend.{FieldDescription, BackendMessage, backend_frame, HasBackendFrame, ErrorResponse, ReadyForQuery, CommandComplete}
use Rattle.pg_wire.specs.Server.{Server, fresh_server, Statement, statement_at, portal_at, ServerStep, Steps, Skips, Fails, StepsSync, StepsDescribe, StepsDescribePortal, StepsBind, StepsExecute, after_sync, IsQueryResponse, ServerRun, IsPrefixOf, AreReplies, MayHear}
use Rattle.pg_wire.proofs.CutLaws.{frame_unique}
use Rattle.pg_wire.proofs.RunLaws.{prefix_trans}
use Rattle.pg_wire.proofs.Unique.{frontend_frame_unique}
use Rattle.pg_wire.specs.declared.status.TransactionStatus.TheVariants as statuses
use Rattle.pg_wire.proofs.Each.{each_join}

-- ---- the server can always go on

-- some replies with frames, and the server behind them
abbrev Goes : (List BackendMessage → Server → Type 0) → Type 0
Goes P = (rs : List BackendMessage) × (new : Server) × P rs new × AllByRecursion HasBackendFrame rs

can_fail : (old : Server) → Goes (Fails old)
can_fail old = (ErrorResponse [] ∷ [], record old { skip = true }, ([], refl, refl), (tt, tt))

can_sync : (old : Server) → Goes (StepsSync old)
can_sync old = (ReadyForQuery statuses.Idle ∷ [], after_sync old statuses.Idle, (statuses.Idle, refl, inl refl), (tt, tt))

fails_describe : (old : Server) (o : Option Statement) (rs : List BackendMessage) (new : Server) → Fails old rs new → StepsDescribe old o rs new
fails_describe old None rs new h = h
fails_describe old (Some s) rs new h = inr h

fails_portal : (old : Server) (o : Option (List FieldDescription)) (rs : List BackendMessage) (new : Server) → Fails old rs new → StepsDescribePortal old o rs new
fails_portal old None rs new h = h
fails_portal old (Some s) rs new h = inr h

fails_bind : (old : Server) (o : Option Statement) (rs : List BackendMessage) (new : Server) → Fails old rs new → StepsBind old o rs new
fails_bind old None rs new h = h
fails_bind old (Some s) rs new h = inr h

can_execute : (old : Server) (o : Option (List FieldDescription)) → Goes (StepsExecute old o)
can_execute old None = can_fail old
can_execute old (Some fields) = (CommandComplete [] ∷ [], old, inl (([], tt, inl ([], refl)), refl), (refl, tt))

can_query : IsQueryResponse (CommandComplete [] ∷ ReadyForQuery statuses.Idle ∷ [])
can_query = record { before = []; last = CommandComplete [] ∷ []; status = statuses.Idle; whole = tt; ends = inl (inl ([], refl)); are = refl }

goes_by : (P Q : List BackendMessage → Server → Type 0) → ((rs : List BackendMessage) (new : Server) → P rs new → Q rs new) → Goes P → Goes Q
goes_by P Q f g = (g.0, g.1, f g.0 g.1 g.2, g.3)

can_step : (old : Server) (message : FrontendMessage) → Goes (Steps old message)
can_step old (Query sql) = (CommandComplete [] ∷ ReadyForQuery statuses.Idle ∷ [], record old { unnamed = None; portal = None }, (can_query, refl), (refl, (tt, tt)))
can_step old (Parse name sql types) = goes_by (Fails old) _ (λ rs new h. inr h) (can_fail old)
can_step old (DescribeStatement name) = goes_by (Fails old) _ (fails_describe old (statement_at old name)) (can_fail old)
can_step old (DescribePortal name) = goes_by (Fails old) _ (fails_portal old (portal_at old name)) (can_fail old)
can_step old (Bind name values) = goes_by (Fails old) _ (fails_bind old (statement_at old name)) (can_fail old)
can_step old (Execute name limit) = can_execute old (portal_at old name)
can_step old (CloseStatement name) = goes_by (Fails old) _ (λ rs new h. inr h) (can_fail old)
can_step old (ClosePortal []) = goes_by (Fails old) _ (λ rs new h. inr h) (can_fail old)
can_step old (ClosePortal (b ∷ bs)) = goes_by (Fails old) _ (λ rs new h. inr h) (can_fail old)
can_step old Sync = can_sync old
can_step old Terminate = ([], record old { over = true }, (refl, refl), tt)
can_step old _ = ([], old, (refl, refl), tt)

can_skip : (old : Server) (message : FrontendMessage) → Goes (Skips old message)
can_skip old Sync = can_sync old
can_skip old Terminate = ([], record old { over = true }, (refl, refl), tt)
can_skip old _ = ([], old, (refl, refl), tt)

choose : (over skip : Bool) (A B C : List BackendMessage → Server → Type 0) → Goes A → Goes B → Goes C → Goes (λ rs new. cond over (A rs new) (cond skip (B rs new) (C rs new)))
choose true skip A B C a b c = a
choose false true A B C a b c = b
choose false false A B C a b c = c

pub step_total : (old : Server) (message : FrontendMessage) → Goes (ServerStep old message)
step_total old message = choose old.over old.skip _ _ _ ([], old, (refl, refl), tt) (can_skip old message) (can_step old message)

-- a run over further messages
abbrev Runs_on : Server → List FrontendMessage → Type 0
Runs_on old messages = (rss : List (List BackendMessage)) × (new : Server) × ServerRun old messages rss new × AllByRecursion HasBackendFrame (flat_map (λ rs. rs) rss)

pub run_total : (old : Server) (messages : List FrontendMessage) → Runs_on old messages
run_total old [] = ([], old, refl, tt)
run_total old (message ∷ messages) =
    let one = step_total old message in
    let further = run_total one.1 messages in
    (one.0 ∷ further.0, further.1, (one.1, one.2, further.2), each_join HasBackendFrame one.0 _ one.3 further.3)

pub run_join : (old mid new : Server) (first second : List FrontendMessage) (front further : List (List BackendMessage)) → ServerRun old first front mid → ServerRun mid second further new → ServerRun old (first ++ second) (front ++ further) new
run_join old mid new [] second [] further a b = subst (λ (m : Server). ServerRun m second further new) a b
run_join old mid new [] second (r ∷ front) further a b = absurd a
run_join old mid new (s ∷ first) second [] further a b = absurd a
run_join old mid new (s ∷ first) second (r ∷ front) further a b = (a.0, a.1, run_join a.0 mid new first second front further a.2 b)

-- ---- the frames sent are the first of those queued

pub sent_first : (tags bytes : List ℕ) (fs ms : List Frame) (r : List ℕ) → AllByRecursion (IsWhole tags) ms → Cuts tags bytes fs r → IsPrefixOf bytes (text_of ms) → IsPrefixOf fs ms
sent_first tags bytes [] ms r w c p = (ms, refl)
sent_first tags bytes (f ∷ fs) [] r w c p = absurd (nothing p.1)
  where
    nothing : bytes ++ p.0 ≡ [] → ⊥
    nothing e = let t = sym (ap (λ (b : List ℕ). b ++ p.0) c.text) ∙ e in cc
sent_first tags bytes (f ∷ fs) (m ∷ ms) r w c p =
    let text : bytes_of f ++ (text_of fs ++ r ++ p.0) ≡ bytes_of m ++ text_of ms = sym (regroup (bytes_of f) (text_of fs) r p.0) ∙ sym (ap (λ (b : List ℕ). b ++ p.0) c.text) ∙ p.1 in
    let one = frame_unique tags f m _ _ c.whole.0 w.0 text in
    let further = sent_first tags (text_of fs ++ r) fs ms r w.1 (record { text = refl; whole = c.whole.1; over = c.over }) (p.0, one.1) in
    (further.0, ap₂ (λ (u : Frame) (us : List Frame). u ∷ us) one.0 further.1)
  where
    regroup : (a b c d : List ℕ) → ((a ++ b) ++ c) ++ d ≡ a ++ (b ++ c ++ d)
    regroup a b c d = simp append_assoc

pub said_first : (xs ys : List FrontendMessage) → AllByRecursion HasFrontendFrame xs → AllByRecursion HasFrontendFrame ys → IsPrefixOf (map frontend_frame xs) (map frontend_frame ys) → IsPrefixOf xs ys
said_first [] ys h k p = (ys, refl)
said_first (x ∷ xs) [] h k p = absurd (no p.1)
  where
    no : map frontend_frame (x ∷ xs) ++ p.0 ≡ [] → ⊥
    no e = cc
said_first (x ∷ xs) (y ∷ ys) h k p =
    let all = p.1 in
    let heads : frontend_frame x ≡ frontend_frame y = cc in
    let tails : map frontend_frame xs ++ p.0 ≡ map frontend_frame ys = cc in
    let further = said_first xs ys h.1 k.1 (p.0, tails) in
    (further.0, ap₂ (λ (u : FrontendMessage) (us : List FrontendMessage). u ∷ us) (frontend_frame_unique x y h.0 k.0 heads) further.1)

-- replies to the first messages may reach whoever sends all of them
pub replies_answer : (messages : List FrontendMessage) (sent heard : List Frame) → AllByRecursion HasFrontendFrame messages → IsPrefixOf sent (map frontend_frame messages) → AreReplies sent heard → MayHear messages heard
replies_answer messages sent heard h p r =
    let front = said_first r.messages messages r.messages_have_frames h (p.0, ap (λ (t : List Frame). t ++ p.0) (sym r.sent_is) ∙ p.1) in
    let further = run_total r.after front.0 in
    let joined : flat_map (λ rs. rs) (r.replies ++ further.0) ≡ flat_map (λ rs. rs) r.replies ++ flat_map (λ rs. rs) further.0 = flat_map-append (λ rs. rs) r.replies further.0 in
    record {
      more = [];
      replies = r.replies ++ further.0;
      after = further.1;
      run = subst (λ (s : List FrontendMessage). ServerRun fresh_server s (r.replies ++ further.0) further.1) (front.1 ∙ sym (append-nil messages)) (run_join fresh_server r.after further.1 r.messages front.0 r.replies further.0 r.run further.2);
      replies_have_frames = subst (AllByRecursion HasBackendFrame) (sym joined) (each_join HasBackendFrame _ _ r.replies_have_frames further.3);
      heard_is = prefix_trans heard _ _ r.heard_is (map backend_frame (flat_map (λ rs. rs) further.0), sym (map-append backend_frame (flat_map (λ rs. rs) r.replies) (flat_map (λ rs. rs) further.0)) ∙ ap (map backend_frame) (sym joined));
    }

pub hear_fewer : (messages : List FrontendMessage) (fewer heard : List Frame) → IsPrefixOf fewer heard → MayHear messages heard → MayHear messages fewer
hear_fewer messages fewer heard p r = record {
  more = r.more;
  replies = r.replies;
  after = r.after;
  run = r.run;
  replies_have_frames = r.replies_have_frames;
  heard_is = prefix_trans fewer heard _ p r.heard_is;
}

pub hear_before : (messages more : List FrontendMessage) (heard : List Frame) → MayHear (messages ++ more) heard → MayHear messages heard
hear_before messages more heard r = record {
  more = more ++ r.more;
  replies = r.replies;
  after = r.after;
  run = subst (λ (s : List FrontendMessage). ServerRun fresh_server s r.replies r.after) (append_assoc messages more r.more) r.run;
  replies_have_frames = r.replies_have_frames;
  heard_is = r.heard_is;
}
