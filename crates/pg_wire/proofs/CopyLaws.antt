-- A server that may copy can reply whatever one that never copies can.
use Rattle.std.proofs.Common.{◌≡◌, ℕ, Bool, true, false, cond, ◌||◌, List, [], ◌∷◌, length, Option, Some, None, refl, ap, inl, inr, ⊎_elim}
use Rattle.std.specs.List.{AllByRecursion}
use Rattle.pg_wire.specs.Frame.{Frame}
use Rattle.pg_wire.specs.Frontend.{FrontendMessage, Query, Execute}
use Rattle.pg_wire.specs.Backend.{FieldDescription, BackendMessage}
use Rattle.pg_wire.specs.Server.{Server, fresh_server, ServerStep, Steps, ServerRun, AreReplies, IsPrefixOf, IsSegment, EndsInError, AreSegments, IsPortalResult, portal_at, StepsExecute}
use Rattle.pg_wire.specs.Copying.{NotCopying, CopyServer, IsCopySegment, IsPortalCopy, CopyStep, StepsOutsideCopy, CopyRun, AreCopyReplies, StepsCopyExecute}
use Rattle.pg_wire.specs.Transactions.{AreTransactionReplies}
use Rattle.pg_wire.proofs.RunLaws.{prefix_trans}

all_more : {A : Type 0} (P Q : A → Type 0) → ((a : A) → P a → Q a) → (xs : List A) → AllByRecursion P xs → AllByRecursion Q xs
all_more P Q f [] h = tt
all_more P Q f (x ∷ xs) h = (f x h.0, all_more P Q f xs h.1)

broken_more : (P Q : List BackendMessage → Type 0) → ((rs : List BackendMessage) → P rs → Q rs) → (rs : List BackendMessage) → EndsInError P rs → EndsInError Q rs
broken_more P Q f rs b = (b.0, b.1, b.2, f _ b.3, b.4, b.5)

segments_more : (rs : List BackendMessage) → AreSegments IsSegment rs → AreSegments IsCopySegment rs
segments_more rs s = record {
  before = s.before;
  last = s.last;
  status = s.status;
  whole = all_more IsSegment IsCopySegment (λ a h. inl h) s.before s.whole;
  ends = ⊎_elim (λ (h : IsSegment s.last). inl (inl h)) (λ (h : EndsInError IsSegment s.last). inr (broken_more IsSegment IsCopySegment (λ a k. inl k) s.last h)) s.ends;
  are = s.are;
}

-- a server where no copy is going on
abbrev pub plain : Server → CopyServer
plain m = record { server = m; mode = NotCopying }

execute_more : (old new : Server) (o : Option (List FieldDescription)) (rs : List BackendMessage) → StepsExecute old o rs new → StepsCopyExecute old o rs (plain new)
execute_more old new None rs h = (h.0, h.1, ap plain h.2)
execute_more old new (Some fields) rs (inl h) = inl (inl h.0, ap plain h.1)
execute_more old new (Some fields) rs (inr h) = inr (inl (broken_more (IsPortalResult (length fields)) (IsPortalCopy (length fields)) (λ a k. inl k) rs h.0, ap plain h.1))

plain_more : (old new : Server) (message : FrontendMessage) (rs : List BackendMessage) → ServerStep old message rs new → Steps old message rs new → StepsOutsideCopy old message rs (plain new)
plain_more old new (Query sql) rs step h = inl (segments_more rs h.0, ap plain h.1)
plain_more old new (Execute name limit) rs step h = execute_more old new (portal_at old name) rs h
plain_more old new _ rs step h = (new, step, refl)

stays : (over skip : Bool) (A B : Type 0) → A → (over ≡ false → skip ≡ false → B) → cond (over || skip) A B
stays true skip A B a b = a
stays false true A B a b = a
stays false false A B a b = b refl refl

plain_step : (over skip : Bool) (A B C : Type 0) → cond over A (cond skip B C) → over ≡ false → skip ≡ false → C
plain_step true skip A B C h e k = absurd cc
plain_step false true A B C h e k = absurd cc
plain_step false false A B C h e k = h

step_more : (old new : Server) (message : FrontendMessage) (rs : List BackendMessage) → ServerStep old message rs new → CopyStep (plain old) message rs (plain new)
step_more old new message rs step = stays old.over old.skip _ _ (new, step, refl) (λ e k. plain_more old new message rs step (plain_step old.over old.skip _ _ _ step e k))

pub run_copies : (old new : Server) (messages : List FrontendMessage) (rss : List (List BackendMessage)) → ServerRun old messages rss new → CopyRun (plain old) messages rss (plain new)
run_copies old new [] [] run = ap plain run
run_copies old new [] (rs ∷ rss) run = absurd run
run_copies old new (message ∷ messages) [] run = absurd run
run_copies old new (message ∷ messages) (rs ∷ rss) run = (plain run.0, step_more old run.0 message rs run.1, run_copies run.0 new messages rss run.2)

pub replies_copy : (sent heard : List Frame) → AreReplies sent heard → AreCopyReplies sent heard
replies_copy sent heard r = record {
  messages = r.messages;
  replies = r.replies;
  after = plain r.after;
  messages_have_frames = r.messages_have_frames;
  sent_is = r.sent_is;
  run = run_copies fresh_server r.after r.messages r.replies r.run;
  replies_have_frames = r.replies_have_frames;
  heard_is = r.heard_is;
}

pub copy_replies_fewer : (sent fewer heard : List Frame) → IsPrefixOf fewer heard → AreCopyReplies sent heard → AreCopyReplies sent fewer
copy_replies_fewer sent fewer heard p r = record {
  messages = r.messages;
  replies = r.replies;
  after = r.after;
  messages_have_frames = r.messages_have_frames;
  sent_is = r.sent_is;
  run = r.run;
  replies_have_frames = r.replies_have_frames;
  heard_is = prefix_trans fewer heard _ p r.heard_is;
}

pub transaction_replies_fewer : (openings : List (List ℕ)) (sent fewer heard : List Frame) → IsPrefixOf fewer heard → AreTransactionReplies openings sent heard → AreTransactionReplies openings sent fewer
unfolding copy_replies_fewer
transaction_replies_fewer openings sent fewer heard p r = record {
  are_replies = copy_replies_fewer sent fewer heard p r.are_replies;
  statuses = r.statuses;
}
