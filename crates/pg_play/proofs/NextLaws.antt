-- What a lawful server may begin in response to the group behind a description that an earlier exchange heard whole.
use Rattle.std.proofs.Common.{◌≡◌, ◌∙◌, ℕ, zero, suc, ◌+◌, ◌≤◌, true, false, cond, List, [], ◌∷◌, ◌++◌, length, map, flat_map, inl, inr, refl, sym, ap, ap₂, subst, append_assoc, append-nil, length-append, arith}
use Rattle.std.specs.List.{AllByRecursion, count_by}
use Rattle.pg_wire.specs.Frame.{Frame}
use Rattle.pg_wire.specs.Parts.{heard, is_ready}
use Rattle.pg_wire.specs.Backend.{BackendMessage, backend_frame, HasBackendFrame, ErrorResponse}
use Rattle.pg_wire.specs.Server.{MayHear}
use Rattle.pg_wire.specs.Groups.{EndsReady, IsGroup}
use Rattle.pg_wire.proofs.Unique.{backend_frame_unique}
use Rattle.pg_wire.specs.Frontend.{FrontendMessage}
use Rattle.pg_stream.specs.Streams.{StreamSeen}
use Rattle.pg_exchanges.specs.Expecting.{Widths, BeginsKnowing}
use Rattle.pg_exchanges.specs.Answering.{described, IsNoError, describing}
use Rattle.pg_call.specs.declared.statement.Extended.{Extended}
use Rattle.pg_call.specs.declared.request.Request.TheVariants as requests
use Rattle.pg_call.specs.declared.answer.CallItem.{CallItem}
use Rattle.pg_call.specs.Requests.{Group, said_in, name_of}
use Rattle.pg_call.specs.Drains.{is_error, after_readys}
use Rattle.pg_call.specs.Calls.{EndsByReady, IsFine}
use Rattle.pg_conn.specs.Connections.{ConnSeen}
use Rattle.pg_call.proofs.DrainLaws.{count-cons, count-push, after_from}
use Rattle.pg_play.specs.Places.{Place, owed}
use Rattle.pg_play.specs.Told.{HasNoError}
use Rattle.pg_play.specs.Plays.{StandsAt}
use Rattle.pg_play.proofs.PartLaws.{count_after, after_more, after_end, no_error}
use Rattle.pg_play.proofs.PlaceLaws.{all_split}
use Rattle.pg_play.proofs.PlaceLaws.{owed_is}
use Rattle.pg_play.proofs.CalledLaws.{KnownAt}
use Rattle.pg_play.proofs.LawfulLaws.{parted}
use Rattle.pg_play.proofs.KnownLaws.{lawful_knows}

-- messages are told apart by their frames
pub replies_same : (xs ys : List BackendMessage) → map backend_frame xs ≡ map backend_frame ys → AllByRecursion HasBackendFrame xs → AllByRecursion HasBackendFrame ys → xs ≡ ys
replies_same [] [] e h k = refl
replies_same [] (y ∷ ys) e h k = absurd cc
replies_same (x ∷ xs) [] e h k = absurd cc
replies_same (x ∷ xs) (y ∷ ys) e h k =
    let heads : backend_frame x ≡ backend_frame y = cc in
    let tails : map backend_frame xs ≡ map backend_frame ys = cc in
    ap₂ (λ (m : BackendMessage) (ms : List BackendMessage). m ∷ ms) (backend_frame_unique x y h.0 k.0 heads) (replies_same xs ys tails h.1 k.1)

-- ---- the frames behind so many ReadyForQuery

-- once they are read, more frames stand behind what follows them
pub after_further : (fs more : List Frame) (p : ℕ) → p ≤ count_by is_ready fs → after_readys p (fs ++ more) ≡ after_readys p fs ++ more
after_further fs more zero h = refl
after_further [] more (suc n) h = absurd (omega arith)
after_further (g ∷ fs) more (suc n) h =
    let k : suc n ≤ cond (is_ready g) 1 0 + count_by is_ready fs = omega (arith, h, count-cons is_ready g fs) in
    (elim (is_ready g) as (λ b. suc n ≤ cond b 1 0 + count_by is_ready fs → after_readys (cond b n (suc n)) (fs ++ more) ≡ after_readys (cond b n (suc n)) fs ++ more) [
      | true ↦ λ q. after_further fs more n (omega (arith, q))
      | false ↦ λ q. after_further fs more (suc n) (omega (arith, q))
    ]) k

-- what is no error stays so
pub good_after : (fs : List Frame) (p : ℕ) → HasNoError fs → HasNoError (after_readys p fs)
good_after fs zero h = h
good_after [] (suc n) h = tt
good_after (g ∷ fs) (suc n) h = good_after fs (cond (is_ready g) n (suc n)) h.1

-- ---- the messages of the response that was heard whole

good_message : (m : BackendMessage) → is_error (backend_frame m) ≡ false → IsNoError m
good_message (ErrorResponse details) e = absurd cc
good_message _ e = tt

pub good_messages : (ms : List BackendMessage) → HasNoError (map backend_frame ms) → AllByRecursion IsNoError ms
good_messages [] h = tt
good_messages (m ∷ ms) h = (good_message m h.0, good_messages ms h.1)

no_message : (ms : List BackendMessage) → map backend_frame ms ≡ [] → ms ≡ []
no_message [] e = refl
no_message (m ∷ ms) e = absurd cc

only_one : (ps : List (List BackendMessage)) (own ms : List BackendMessage) → ms ≡ flat_map (λ p. p) ps ++ own → own ≡ [] → length ps ≡ 1 → AllByRecursion EndsReady ps → EndsReady ms
only_one [] own ms e z c h = absurd (omega (arith, c))
only_one (q ∷ p ∷ ps) own ms e z c h = absurd (omega (arith, c))
only_one (q ∷ []) own ms e z c h =
    let same : ms ≡ q = e ∙ append_assoc q [] own ∙ ap (λ (t : List BackendMessage). q ++ t) z ∙ append-nil q in
    record { front = h.0.front; status = h.0.status; unready = h.0.unready; are = same ∙ h.0.are }

-- messages whose one ReadyForQuery is the last of them are a whole response
whole_so : (front : List Frame) (z : Frame) (ms : List BackendMessage) → map backend_frame ms ≡ front ++ z ∷ [] → count_by is_ready front ≡ 0 → is_ready z ≡ true → EndsReady ms
whole_so front z ms e c r =
    let one : count_by is_ready (front ++ z ∷ []) ≡ 1 = omega (arith, c, rw r at (count-push is_ready front z)) in
    let p = parted ms 1 (ap (λ (t : List Frame). count_by is_ready t) e ∙ one) in
    let none : map backend_frame p.own ≡ [] = p.behind ∙ ap (after_readys 1) e ∙ after_end front z 1 r one in
    only_one p.ps p.own ms p.whole (no_message p.own none) p.count p.ended

-- behind as many ReadyForQuery as are owed, one whole response is left
pub whole_behind : (owed : ℕ) (slice : List Frame) (told : List BackendMessage) → count_by is_ready slice ≡ owed + 1 → EndsByReady slice → after_readys owed slice ≡ map backend_frame told → EndsReady told
whole_behind owed slice told c (inl e) a =
    let none : count_by is_ready slice ≡ 0 = ap (λ (t : List Frame). count_by is_ready t) e in
    absurd (omega (arith, c, none))
whole_behind owed slice told c (inr (front, z, e, r)) a =
    let all : count_by is_ready (front ++ z ∷ []) ≡ owed + 1 = ap (λ (t : List Frame). count_by is_ready t) (sym e) ∙ c in
    let some : count_by is_ready front ≡ owed = omega (arith, all, rw r at (count-push is_ready front z)) in
    let are : map backend_frame told ≡ after_readys owed front ++ z ∷ [] = sym a ∙ ap (after_readys owed) e ∙ after_from front owed z (omega (arith, some)) in
    whole_so (after_readys owed front) z told are (count_after front owed some) r

-- ---- what comes next

-- one slice heard the responses owed to the groups before, and then the whole response to a group that described a statement, without an
-- error: what was heard since begins a response to the next group, of a server that has this statement with as many columns as were described
knows_next : (groups : List Group) (name sql types : List ℕ) (group : Group) (owed : ℕ) (before slice1 slice2 : List Frame) (front : Frame) (told : List BackendMessage) → AllByRecursion IsGroup groups → IsGroup group
    → MayHear (said_in ((groups ++ describing name sql types ∷ []) ++ group ∷ [])) (((before ++ slice1) ++ slice2) ++ front ∷ [])
    → count_by is_ready before + owed ≡ length groups → (owed ≡ 0 → after_readys (length groups) before ≡ [])
    → count_by is_ready slice1 ≡ owed + 1 → count_by is_ready ((before ++ slice1) ++ slice2) ≡ length groups + 1 → HasNoError slice1 → EndsByReady slice1
    → after_readys owed slice1 ≡ map backend_frame told → AllByRecursion HasBackendFrame told → BeginsKnowing ((name, length (described told)) ∷ []) group (slice2 ++ front ∷ [])
knows_next groups name sql types group owed before slice1 slice2 front told gs g l count rests own all good ends after frames =
    let heards : List Frame = (before ++ slice1) ++ slice2 in
    let behind : after_readys (length groups) heards ≡ map backend_frame told ++ slice2 =
    ap (after_readys (length groups)) (append_assoc before slice1 slice2) ∙ after_more before (slice1 ++ slice2) (length groups) owed count rests ∙ after_further slice1 slice2 owed (omega (arith, own)) ∙ ap (λ (t : List Frame). t ++ slice2) after in
    lawful_knows groups name sql types group heards slice2 front told gs g l all behind (whole_behind owed slice1 told own ends after) frames (good_messages told (subst HasNoError after (good_after slice1 owed good)))

-- behind a description that was answered, the columns of the statement are known
pub described_known : (start : StreamSeen) (at next : Place) (a c : ConnSeen) (x : Extended) (said : List FrontendMessage) (slice : List Frame) (items : List CallItem) → StandsAt start at a → StandsAt start next c → next.groups ≡ at.groups ++ describing (name_of x.statement) x.sql x.arguments.types ∷ [] → heard next.frames ≡ heard at.frames ++ slice
    → (f : IsFine a.ledger (requests.Describe x) said slice items c.ledger) → KnownAt ((name_of x.statement, length (described f.reply)) ∷ []) next
described_known start at next a c x said slice items st st' groups frames f group more front gs g l count =
    let widths : Widths = (name_of x.statement, length (described f.reply)) ∷ [] in
    let may = subst (λ (h : List Frame). MayHear (said_in ((at.groups ++ describing (name_of x.statement) x.sql x.arguments.types ∷ []) ++ group ∷ [])) ((h ++ more) ++ front ∷ [])) frames (subst (λ (gs : List Group). MayHear (said_in (gs ++ group ∷ [])) ((heard next.frames ++ more) ++ front ∷ [])) groups l) in
    let answered : count_by is_ready ((heard at.frames ++ slice) ++ more) ≡ length at.groups + 1 = ap (λ (h : List Frame). count_by is_ready (h ++ more)) (sym frames) ∙ count ∙ ap (λ (gs : List Group). length gs) groups ∙ length-append at.groups (describing (name_of x.statement) x.sql x.arguments.types ∷ []) in
    let none_owed : owed next ≡ 0 = owed_is start next c st' ∙ f.owes in
    subst (λ (n : ℕ). BeginsKnowing widths group (after_readys n more ++ front ∷ [])) (sym none_owed)
    (knows_next at.groups (name_of x.statement) x.sql x.arguments.types group a.ledger.owed (heard at.frames) slice more front f.reply (all_split IsGroup at.groups (describing (name_of x.statement) x.sql x.arguments.types ∷ []) (subst (AllByRecursion IsGroup) groups gs)).0 g may st.ledger st.between f.counted answered (no_error slice f.well) f.ends f.replied f.reply_has_frames)
