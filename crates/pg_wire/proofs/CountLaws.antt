-- A server, copies allowed, sends no more ReadyForQuery than it has heard Query and Sync.
use Rattle.pg_wire.specs.declared.status.TransactionStatus.{TransactionStatus}
use Rattle.std.proofs.Common.{◌≡◌, ℕ, ◌+◌, ◌≤◌, Bool, true, false, cond, ◌||◌, List, [], ◌∷◌, ◌++◌, length, map, Option, Some, None, refl, sym, ap, ◌∙◌, subst, flat_map, ◌⊎◌, inl, inr, ⊎_elim, arith, count_by}
use Rattle.std.specs.List.{AllByRecursion}
use Rattle.std.proofs.lemmas.List.Sums.{sum_by-append, sum_by-cons}
use Rattle.pg_wire.specs.Frame.{Frame}
use Rattle.pg_wire.specs.Frontend.{FrontendMessage, frontend_frame, Query, Parse, DescribeStatement, DescribePortal, Bind, Execute, CloseStatement, ClosePortal, Sync, Terminate, CopyData, CopyDone, CopyFail}
use Rattle.pg_wire.specs.Backend.{FieldDescription, BackendMessage, backend_frame, ReadyForQuery, CommandComplete, BackendCopyData, BackendCopyDone}
use Rattle.pg_wire.specs.Parts.{is_ready, ends_group}
use Rattle.pg_wire.specs.Groups.{IsUnready, AreUnready, EndsReady, says_ready}
use Rattle.pg_wire.specs.Server.{Server, ServerStep, Steps, Ignores, StepsSync, StepsTerminate, AreSegments, EndsInError, portal_at}
use Rattle.pg_wire.specs.Copying.{CopyServer, CopyMode, NotCopying, QueryCopies, ExecuteCopies, IsCopyOut, IsCopySegment, IsPortalCopy, PausesForCopy, AnswersQuery, FailsQuery, FailsExecute, StepsCopyExecute, StepsOutsideCopy, StepsInQueryCopy, StepsInExecuteCopy, StepsInMode, CopyStep, CopyRun, AreCopyReplies, Leaves, fresh_copy_server}
use Rattle.pg_wire.proofs.SkipLaws.{silent_when_over}
use Rattle.pg_wire.proofs.RunLaws.{segment_unready, portal_unready, query_ready, sync_ready, inner_step, broken_unready}
use Rattle.pg_wire.proofs.Tests.{of_two}

-- ---- counts

abbrev readies : List BackendMessage → ℕ
readies rs = count_by says_ready rs

-- one for a Query and a Sync
abbrev asks : FrontendMessage → ℕ
asks message = cond (ends_group (frontend_frame message)) 1 0

-- one where the response to a Query is open
abbrev open_in : CopyMode → ℕ
open_in QueryCopies = 1
open_in _ = 0

readies-append : (xs ys : List BackendMessage) → readies (xs ++ ys) ≡ readies xs + readies ys
readies-append xs ys = sum_by-append (λ r. cond (says_ready r) 1 0) xs ys

-- one message's count
abbrev ready : BackendMessage → ℕ
ready r = cond (says_ready r) 1 0

readies-cons : (r : BackendMessage) (rs : List BackendMessage) → readies (r ∷ rs) ≡ ready r + readies rs
readies-cons r rs = sum_by-cons (λ t. cond (says_ready t) 1 0) r rs

one_unready : (r : BackendMessage) → IsUnready r → ready r ≡ 0
one_unready (ReadyForQuery status) u = absurd u
one_unready _ u = refl

none_ready : (rs : List BackendMessage) → AreUnready rs → readies rs ≡ 0
none_ready [] u = refl
none_ready (r ∷ rs) u =
    let one = one_unready r u.0 in
    let more = none_ready rs u.1 in
    let both = readies-cons r rs in
    omega (arith, one, more, both)

one_ready : (rs : List BackendMessage) → EndsReady rs → readies rs ≡ 1
one_ready rs e =
    let is = ap readies e.are in
    let both = readies-append e.front (ReadyForQuery e.status ∷ []) in
    let none = none_ready e.front e.unready in
    let last : readies (ReadyForQuery e.status ∷ []) ≡ 1 = refl in
    omega (arith, is, both, none, last)

-- ---- copies have no ReadyForQuery

both_all : (xs ys : List BackendMessage) → AreUnready xs → AreUnready ys → AreUnready (xs ++ ys)
both_all [] ys h k = k
both_all (x ∷ xs) ys h k = (h.0, both_all xs ys h.1 k)

data_unready : (pieces : List (List ℕ)) → AreUnready (map BackendCopyData pieces)
data_unready [] = tt
data_unready (piece ∷ pieces) = (tt, data_unready pieces)

out_unready : (rs : List BackendMessage) → IsCopyOut rs → AreUnready rs
out_unready rs c = subst AreUnready (sym c.4) (tt, both_all (map BackendCopyData c.2) (BackendCopyDone ∷ CommandComplete c.3 ∷ []) (data_unready c.2) (tt, (tt, tt)))

copy_segment_unready : (rs : List BackendMessage) → IsCopySegment rs → AreUnready rs
copy_segment_unready rs (inl s) = segment_unready rs s
copy_segment_unready rs (inr c) = out_unready rs c

copy_result_unready : (width : ℕ) (rs : List BackendMessage) → IsPortalCopy width rs → AreUnready rs
copy_result_unready width rs (inl p) = portal_unready width rs p
copy_result_unready width rs (inr c) = out_unready rs c

all_unready : (rss : List (List BackendMessage)) → AllByRecursion IsCopySegment rss → AreUnready (flat_map (λ rs. rs) rss)
all_unready [] h = tt
all_unready (rs ∷ rss) h = both_all rs _ (copy_segment_unready rs h.0) (all_unready rss h.1)

copy_response_ready : (rs : List BackendMessage) → AreSegments IsCopySegment rs → EndsReady rs
copy_response_ready rs s = record {
  front = flat_map (λ segment. segment) s.before ++ s.last;
  status = s.status;
  unready = both_all _ s.last (all_unready s.before s.whole) (⊎_elim (λ (h : IsCopySegment s.last). copy_segment_unready s.last h) (λ (h : EndsInError IsCopySegment s.last). broken_unready IsCopySegment copy_segment_unready s.last h) s.ends);
  are = s.are;
}

pause_unready : (rs : List BackendMessage) → PausesForCopy rs → AreUnready rs
pause_unready rs p =
    let is = p.3 in
    subst AreUnready (sym p.4) (both_all (flat_map (λ t. t) p.0) (p.1 ∷ []) (all_unready p.0 p.2) (subst IsUnready (sym is.2) tt, tt))

-- ---- one step of a server that never copies

silent_le : (message : FrontendMessage) (rs : List BackendMessage) → rs ≡ [] → readies rs ≤ asks message
silent_le message rs e = let none : readies rs ≡ 0 = ap readies e in omega (arith, none)

still_le : (message : FrontendMessage) (rs : List BackendMessage) → AreUnready rs → readies rs ≤ asks message
still_le message rs u = let none = none_ready rs u in omega (arith, none)

one_le : (rs : List BackendMessage) (n : ℕ) → EndsReady rs → n ≡ 1 → readies rs ≤ n
one_le rs n e is = let one = one_ready rs e in omega (arith, one, is)

going : (over skip : Bool) (A B C D : Type 0) → over ≡ false → (B → D) → (C → D) → cond over A (cond skip B C) → D
going true skip A B C D e b c h = absurd cc
going false true A B C D e b c h = b h
going false false A B C D e b c h = c h

count_going : (old new : Server) (message : FrontendMessage) (rs : List BackendMessage) → old.over ≡ false → ServerStep old message rs new → readies rs ≤ asks message
count_going old new (Query sql) rs e step = going old.over old.skip _ _ _ _ e (λ (h : Ignores old rs new). silent_le (Query sql) rs h.0) (λ (h : Steps old (Query sql) rs new). one_le rs (asks (Query sql)) (query_ready rs h.0) refl) step
count_going old new Sync rs e step = going old.over old.skip _ _ _ _ e (λ (h : StepsSync old rs new). one_le rs (asks Sync) (sync_ready old new rs h) refl) (λ (h : StepsSync old rs new). one_le rs (asks Sync) (sync_ready old new rs h) refl) step
count_going old new Terminate rs e step = going old.over old.skip _ _ _ _ e (λ (h : StepsTerminate old rs new). silent_le Terminate rs h.0) (λ (h : StepsTerminate old rs new). silent_le Terminate rs h.0) step
count_going old new CopyDone rs e step = still_le CopyDone rs (inner_step old new CopyDone rs tt e step).0
count_going old new (Parse name sql types) rs e step = still_le (Parse name sql types) rs (inner_step old new (Parse name sql types) rs tt e step).0
count_going old new (DescribeStatement name) rs e step = still_le (DescribeStatement name) rs (inner_step old new (DescribeStatement name) rs tt e step).0
count_going old new (DescribePortal name) rs e step = still_le (DescribePortal name) rs (inner_step old new (DescribePortal name) rs tt e step).0
count_going old new (Bind name values) rs e step = still_le (Bind name values) rs (inner_step old new (Bind name values) rs tt e step).0
count_going old new (Execute name limit) rs e step = still_le (Execute name limit) rs (inner_step old new (Execute name limit) rs tt e step).0
count_going old new (CloseStatement name) rs e step = still_le (CloseStatement name) rs (inner_step old new (CloseStatement name) rs tt e step).0
count_going old new (ClosePortal name) rs e step = still_le (ClosePortal name) rs (inner_step old new (ClosePortal name) rs tt e step).0
count_going old new (CopyData bytes) rs e step = still_le (CopyData bytes) rs (inner_step old new (CopyData bytes) rs tt e step).0
count_going old new (CopyFail text) rs e step = still_le (CopyFail text) rs (inner_step old new (CopyFail text) rs tt e step).0

count_plain : (old new : Server) (message : FrontendMessage) (rs : List BackendMessage) → (over : Bool) → old.over ≡ over → ServerStep old message rs new → readies rs ≤ asks message
count_plain old new message rs true e step = silent_le message rs (silent_when_over old new message rs e step).0
count_plain old new message rs false e step = count_going old new message rs e step

-- ---- one step of a server that may copy

-- with what is open behind the step
abbrev counted : List BackendMessage → CopyServer → ℕ
counted rs new = readies rs + open_in new.mode

mode_is : (server : Server) (mode : CopyMode) (new : CopyServer) → Leaves server mode new → open_in new.mode ≡ open_in mode
mode_is server mode new l = ap (λ (m : CopyServer). open_in m.mode) l

answers_count : (server : Server) (rs : List BackendMessage) (new : CopyServer) → AnswersQuery server rs new → counted rs new ≡ 1
answers_count server rs new (inl h) = let one = one_ready rs (copy_response_ready rs h.0) in let none = mode_is server NotCopying new h.1 in omega (arith, one, none)
answers_count server rs new (inr h) = let none = none_ready rs (pause_unready rs h.0) in let one = mode_is server QueryCopies new h.1 in omega (arith, one, none)

fails_query_count : (server : Server) (rs : List BackendMessage) (new : CopyServer) → FailsQuery server rs new → counted rs new ≡ 1
fails_query_count server rs new h = let one : readies rs ≡ 1 = ap readies h.2 in let none = mode_is server NotCopying new h.3 in omega (arith, one, none)

fails_execute_count : (server : Server) (rs : List BackendMessage) (new : CopyServer) → FailsExecute server rs new → counted rs new ≡ 0
fails_execute_count server rs new h = let one : readies rs ≡ 0 = ap readies h.1 in let none = mode_is (record server { skip = true }) NotCopying new h.2 in omega (arith, one, none)

unready_count : (server : Server) (mode : CopyMode) (rs : List BackendMessage) (new : CopyServer) → AreUnready rs → Leaves server mode new → open_in mode ≡ 0 → counted rs new ≡ 0
unready_count server mode rs new u l z = let none = none_ready rs u in let is = mode_is server mode new l in omega (arith, none, is, z)

execute_count : (server : Server) (o : Option (List FieldDescription)) (rs : List BackendMessage) (new : CopyServer) → StepsCopyExecute server o rs new → counted rs new ≡ 0
execute_count server None rs new h = fails_execute_count server rs new h
execute_count server (Some fields) rs new (inl h) = unready_count server NotCopying rs new (copy_result_unready (length fields) rs h.0) h.1 refl
execute_count server (Some fields) rs new (inr (inl h)) = unready_count (record server { skip = true }) NotCopying rs new (broken_unready (IsPortalCopy (length fields)) (copy_result_unready (length fields)) rs h.0) h.1 refl
execute_count server (Some fields) rs new (inr (inr h)) =
    let is = h.1 in
    unready_count server ExecuteCopies rs new (subst AreUnready (sym h.2) (subst IsUnready (sym is.2) tt, tt)) h.3 refl

plain_count : (server : Server) (mode : CopyMode) (message : FrontendMessage) (rs : List BackendMessage) (new : CopyServer) → (next : Server) × ServerStep server message rs next × Leaves next mode new → counted rs new ≤ asks message + open_in mode
plain_count server mode message rs new h =
    let le = count_plain server h.0 message rs server.over refl h.1 in
    let is = mode_is h.0 mode new h.2 in
    omega (arith, le, is)

at_most : (n m k : ℕ) → n ≡ k → k ≤ m → n ≤ m
at_most n m k e le = omega (arith, e, le)

outside_count : (server : Server) (message : FrontendMessage) (rs : List BackendMessage) (new : CopyServer) → StepsOutsideCopy server message rs new → counted rs new ≤ asks message + 0
outside_count server (Query sql) rs new h = at_most _ _ 1 (answers_count (record server { unnamed = None; portal = None }) rs new h) (omega arith)
outside_count server (Execute name limit) rs new h = at_most _ _ 0 (execute_count server (portal_at server name) rs new h) (omega arith)
outside_count server message rs new h = plain_count server NotCopying message rs new h

done_count : (server : Server) (rs : List BackendMessage) (new : CopyServer) → StepsInQueryCopy server CopyDone rs new → counted rs new ≤ 1
done_count server rs new (inl h) = more h.3
  where
    more : ((status : TransactionStatus) × (h.1 ≡ ReadyForQuery status ∷ []) × Leaves server NotCopying new) ⊎ AnswersQuery server h.1 new → counted rs new ≤ 1
    more (inl k) =
        let one : readies h.1 ≡ 1 = ap readies k.1 in
        let same : readies rs ≡ readies h.1 = ap readies h.2 in
        let none = mode_is server NotCopying new k.2 in
        omega (arith, one, same, none)
    more (inr k) =
        let one = answers_count server h.1 new k in
        let same : readies rs ≡ readies h.1 = ap readies h.2 in
        omega (arith, one, same)
done_count server rs new (inr h) = at_most _ _ 1 (fails_query_count server rs new h) (omega arith)

ended_count : (server : Server) (rs : List BackendMessage) (new : CopyServer) → (rs ≡ []) × Leaves (record server { over = true }) NotCopying new → counted rs new ≡ 0
ended_count server rs new h = unready_count (record server { over = true }) NotCopying rs new (subst AreUnready (sym h.0) tt) h.1 refl

fails_le : (server : Server) (message : FrontendMessage) (rs : List BackendMessage) (new : CopyServer) → FailsQuery server rs new → counted rs new ≤ asks message + 1
fails_le server message rs new h = let one = fails_query_count server rs new h in omega (arith, one)

in_query_count : (server : Server) (message : FrontendMessage) (rs : List BackendMessage) (new : CopyServer) → StepsInQueryCopy server message rs new → counted rs new ≤ asks message + 1
in_query_count server (CopyData bytes) rs new h =
    let none : readies rs ≡ 0 = ap readies h.0 in
    let is = mode_is server QueryCopies new h.1 in
    omega (arith, none, is)
in_query_count server CopyDone rs new h = at_most _ _ (counted rs new) refl (omega (arith, done_count server rs new h))
in_query_count server Sync rs new h = absurd h
in_query_count server Terminate rs new h = at_most _ _ 0 (ended_count server rs new h) (omega arith)
in_query_count server message rs new h = fails_le server message rs new h

in_execute_count : (server : Server) (message : FrontendMessage) (rs : List BackendMessage) (new : CopyServer) → StepsInExecuteCopy server message rs new → counted rs new ≡ 0
in_execute_count server (CopyData bytes) rs new h = unready_count server ExecuteCopies rs new (subst AreUnready (sym h.0) tt) h.1 refl
in_execute_count server CopyDone rs new (inl h) = unready_count server NotCopying rs new (subst AreUnready (sym h.1) (tt, tt)) h.2 refl
in_execute_count server CopyDone rs new (inr h) = fails_execute_count server rs new h
in_execute_count server Sync rs new h = absurd h
in_execute_count server Terminate rs new h = ended_count server rs new h
in_execute_count server message rs new h = fails_execute_count server rs new h

mode_count : (server : Server) (mode : CopyMode) (message : FrontendMessage) (rs : List BackendMessage) (new : CopyServer) → StepsInMode server mode message rs new → counted rs new ≤ asks message + open_in mode
mode_count server NotCopying message rs new h = outside_count server message rs new h
mode_count server QueryCopies message rs new h = in_query_count server message rs new h
mode_count server ExecuteCopies message rs new h = at_most _ _ 0 (in_execute_count server message rs new h) (omega arith)

step_count : (old new : CopyServer) (message : FrontendMessage) (rs : List BackendMessage) → CopyStep old message rs new → counted rs new ≤ asks message + open_in old.mode
step_count old new message rs step = of_two (old.server.over || old.server.skip) _ _ _ (plain_count old.server old.mode message rs new) (mode_count old.server old.mode message rs new) step

-- ---- runs, and frames

abbrev all_asks : List FrontendMessage → ℕ
all_asks messages = count_by (λ message. ends_group (frontend_frame message)) messages

run_count : (old new : CopyServer) (messages : List FrontendMessage) (rss : List (List BackendMessage)) → CopyRun old messages rss new → counted (flat_map (λ rs. rs) rss) new ≤ all_asks messages + open_in old.mode
run_count old new [] [] run = let is : open_in new.mode ≡ open_in old.mode = ap (λ (m : CopyServer). open_in m.mode) run in omega (arith, is)
run_count old new [] (rs ∷ rss) run = absurd run
run_count old new (message ∷ messages) [] run = absurd run
run_count old new (message ∷ messages) (rs ∷ rss) run =
    let one = step_count old run.0 message rs run.1 in
    let further = run_count run.0 new messages rss run.2 in
    let both = readies-append rs (flat_map (λ t. t) rss) in
    let all : all_asks (message ∷ messages) ≡ asks message + all_asks messages = sum_by-cons (λ (t : FrontendMessage). cond (ends_group (frontend_frame t)) 1 0) message messages in
    omega (arith, one, further, both, all)

heard_count : (rs : List BackendMessage) → count_by is_ready (map backend_frame rs) ≡ readies rs
heard_count [] = refl
heard_count (r ∷ rs) = sum_by-cons (λ f. cond (is_ready f) 1 0) (backend_frame r) (map backend_frame rs) ∙ ap (λ (n : ℕ). ready r + n) (heard_count rs) ∙ sym (readies-cons r rs)

sent_count : (messages : List FrontendMessage) → count_by ends_group (map frontend_frame messages) ≡ all_asks messages
sent_count [] = refl
sent_count (m ∷ ms) = sum_by-cons (λ f. cond (ends_group f) 1 0) (frontend_frame m) (map frontend_frame ms) ∙ ap (λ (n : ℕ). asks m + n) (sent_count ms) ∙ sym (sum_by-cons (λ (t : FrontendMessage). cond (ends_group (frontend_frame t)) 1 0) m ms)

pub no_more_ready : (sent heard : List Frame) → AreCopyReplies sent heard → count_by is_ready heard ≤ count_by ends_group sent
no_more_ready sent heard r =
    let run = run_count fresh_copy_server r.after r.messages r.replies r.run in
    let all = ap (count_by is_ready) r.heard_is.1 in
    let split : count_by is_ready (heard ++ r.heard_is.0) ≡ count_by is_ready heard + count_by is_ready r.heard_is.0 = sum_by-append (λ f. cond (is_ready f) 1 0) heard r.heard_is.0 in
    let replies = heard_count (flat_map (λ rs. rs) r.replies) in
    let messages = ap (count_by ends_group) r.sent_is ∙ sent_count r.messages in
    omega (arith, run, all, split, replies, messages)
