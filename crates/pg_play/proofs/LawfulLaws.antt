-- A lawful server never breaks the connection: what a call hears behind as many responses as groups begins a response to its group.
use Rattle.std.proofs.Common.{◌≡◌, ℕ, zero, suc, ◌+◌, Bool, true, false, cond, List, [], ◌∷◌, ◌++◌, length, map, refl, sym, ap, ap₂, ◌∙◌, subst, append_assoc, append-nil, arith, flat_map}
use Rattle.std.specs.List.{AllByRecursion, count_by}
use Rattle.std.proofs.lemmas.List.Concat.{flat_map-append}
use Rattle.std.proofs.lemmas.List.{map-append}
use Rattle.pg_wire.specs.declared.status.TransactionStatus.{TransactionStatus}
use Rattle.pg_wire.specs.Frame.{Frame}
use Rattle.pg_wire.specs.Parts.{is_ready}
use Rattle.pg_wire.specs.Frontend.{FrontendMessage}
use Rattle.pg_wire.specs.Backend.{BackendMessage, backend_frame, HasBackendFrame, ReadyForQuery}
use Rattle.pg_wire.specs.Server.{Server, ServerRun, IsPrefixOf, MayHear, fresh_server}
use Rattle.pg_wire.specs.Groups.{IsUnready, AreUnready, EndsReady, IsBetween, IsGroup}
use Rattle.pg_wire.specs.Refusals.{BeginsCopyResponse}
use Rattle.pg_wire.proofs.RunLaws.{run_split}
use Rattle.pg_wire.proofs.GroupLaws.{group_answers}
use Rattle.pg_wire.proofs.RefusalLaws.{response_begins_copy_response}
use Rattle.pg_call.specs.Requests.{Group, said_in}
use Rattle.pg_call.specs.Drains.{after_readys}
use Rattle.pg_call.proofs.DrainLaws.{count-cons}
use Rattle.pg_play.proofs.PlaceLaws.{all_split}
use Rattle.pg_wire.proofs.OwnLaws.{split_answers}

-- what was heard, and one frame more, as messages
pub record SplitFront (heards : List Frame) (front : Frame) (rs : List BackendMessage) : Type 0 where
  pub before : List BackendMessage
  pub message : BackendMessage
  pub behind : List BackendMessage
  pub heards_are : heards ≡ map backend_frame before
  pub front_is : front ≡ backend_frame message
  pub whole : rs ≡ before ++ message ∷ behind

split_more : (h : Frame) (r : BackendMessage) (hs : List Frame) (front : Frame) (rs : List BackendMessage) → h ≡ backend_frame r → SplitFront hs front rs → SplitFront (h ∷ hs) front (r ∷ rs)
split_more h r hs front rs head s = record {
  before = r ∷ s.before;
  message = s.message;
  behind = s.behind;
  heards_are = ap₂ (λ (x : Frame) (xs : List Frame). x ∷ xs) head s.heards_are;
  front_is = s.front_is;
  whole = ap (λ (x : List BackendMessage). r ∷ x) s.whole;
}

pub split_front : (heards : List Frame) (front : Frame) (rest : List Frame) (rs : List BackendMessage) → (heards ++ front ∷ []) ++ rest ≡ map backend_frame rs → SplitFront heards front rs
split_front [] front rest [] e = absurd cc
split_front [] front rest (r ∷ rs) e = let head : front ≡ backend_frame r = cc in record { before = []; message = r; behind = rs; heards_are = refl; front_is = head; whole = refl }
split_front (h ∷ hs) front rest [] e = absurd cc
split_front (h ∷ hs) front rest (r ∷ rs) e =
    let head : h ≡ backend_frame r = cc in
    let tails : (hs ++ front ∷ []) ++ rest ≡ map backend_frame rs = cc in
    split_more h r hs front rs head (split_front hs front rest rs tails)

-- ---- the messages so far, response by response

pub record Parted (xs : List BackendMessage) (n : ℕ) : Type 0 where
  pub ps : List (List BackendMessage)
  pub own : List BackendMessage
  pub whole : xs ≡ flat_map (λ p. p) ps ++ own
  pub ended : AllByRecursion EndsReady ps
  pub count : length ps ≡ n
  pub unready : AreUnready own
  pub behind : map backend_frame own ≡ after_readys n (map backend_frame xs)

onto_part : (a : BackendMessage) (q : List BackendMessage) → IsUnready a → EndsReady q → EndsReady (a ∷ q)
onto_part a q u r = record { front = a ∷ r.front; status = r.status; unready = (u, r.unready); are = ap (λ (t : List BackendMessage). a ∷ t) r.are }

parted_unready : (a : BackendMessage) (xs : List BackendMessage) (n : ℕ) → IsUnready a → is_ready (backend_frame a) ≡ false → Parted xs n → Parted (a ∷ xs) n
parted_unready a xs n u z p = by p.ps p.own n p.whole p.ended p.count p.unready p.behind
  where
    by : (ps : List (List BackendMessage)) (own : List BackendMessage) (n : ℕ) → xs ≡ flat_map (λ p. p) ps ++ own → AllByRecursion EndsReady ps → length ps ≡ n → AreUnready own → map backend_frame own ≡ after_readys n (map backend_frame xs) → Parted (a ∷ xs) n
    by [] own zero w e c k b = record { ps = []; own = a ∷ own; whole = ap (λ (t : List BackendMessage). a ∷ t) w; ended = tt; count = refl; unready = (u, k); behind = ap (λ (t : List Frame). backend_frame a ∷ t) b }
    by [] own (suc m) w e c k b = absurd (omega (arith, c))
    by (q ∷ ps) own zero w e c k b = absurd (omega (arith, c))
    by (q ∷ ps) own (suc m) w e c k b = record {
      ps = (a ∷ q) ∷ ps;
      own = own;
      whole = ap (λ (t : List BackendMessage). a ∷ t) w;
      ended = (onto_part a q u e.0, e.1);
      count = c;
      unready = k;
      behind = b ∙ ap (λ (t : Bool). after_readys (cond t m (suc m)) (map backend_frame xs)) (sym z);
    }

parted_ready : (s : TransactionStatus) (xs : List BackendMessage) (n : ℕ) → Parted xs n → Parted (ReadyForQuery s ∷ xs) (suc n)
parted_ready s xs n p = record {
  ps = (ReadyForQuery s ∷ []) ∷ p.ps;
  own = p.own;
  whole = ap (λ (t : List BackendMessage). ReadyForQuery s ∷ t) p.whole;
  ended = (record { front = []; status = s; unready = tt; are = refl }, p.ended);
  count = omega (arith, p.count);
  unready = p.unready;
  behind = p.behind;
}

count_next : (a : BackendMessage) (xs : List BackendMessage) (n : ℕ) (b : Bool) → is_ready (backend_frame a) ≡ b → count_by is_ready (map backend_frame (a ∷ xs)) ≡ n → cond b 1 0 + count_by is_ready (map backend_frame xs) ≡ n
count_next a xs n b z c = rw z at (sym (count-cons is_ready (backend_frame a) (map backend_frame xs))) ∙ c

pub parted : (xs : List BackendMessage) (n : ℕ) → count_by is_ready (map backend_frame xs) ≡ n → Parted xs n
parted [] zero c = record { ps = []; own = []; whole = refl; ended = tt; count = refl; unready = tt; behind = refl }
parted [] (suc n) c = absurd (omega (arith, c))
parted (ReadyForQuery s ∷ xs) zero c = absurd (omega (arith, count_next (ReadyForQuery s) xs zero true refl c))
parted (ReadyForQuery s ∷ xs) (suc n) c = parted_ready s xs n (parted xs n (omega (arith, count_next (ReadyForQuery s) xs (suc n) true refl c)))
parted (a ∷ xs) n c = parted_unready a xs n tt refl (parted xs n (omega (arith, count_next a xs n false refl c)))

-- ---- the run, group by group

same_ready : (front front' : List BackendMessage) (s s' : TransactionStatus) (x y : List BackendMessage) → AreUnready front → AreUnready front' → IsPrefixOf (front ++ ReadyForQuery s ∷ x) (front' ++ ReadyForQuery s' ∷ y) → IsPrefixOf x y
same_ready [] [] s s' x y u v p =
    let e = p.1 in
    let tails : x ++ p.0 ≡ y = cc in
    (p.0, tails)
same_ready [] (b ∷ bs) s s' x y u v p =
    let e = p.1 in
    let head : ReadyForQuery s ≡ b = cc in
    absurd (subst IsUnready (sym head) v.0)
same_ready (a ∷ as') [] s s' x y u v p =
    let e = p.1 in
    let head : a ≡ ReadyForQuery s' = cc in
    absurd (subst IsUnready head u.0)
same_ready (a ∷ as') (b ∷ bs) s s' x y u v p =
    let e = p.1 in
    let tails : (as' ++ ReadyForQuery s ∷ x) ++ p.0 ≡ bs ++ ReadyForQuery s' ∷ y = cc in
    same_ready as' bs s s' x y u.1 v.1 (p.0, tails)

-- what is unready, and one message more, ends before or at the first ReadyForQuery
pub open_front_one : (xs front : List BackendMessage) (a : BackendMessage) (s : TransactionStatus) (y : List BackendMessage) → AreUnready xs → IsPrefixOf (xs ++ a ∷ []) (front ++ ReadyForQuery s ∷ y) → IsPrefixOf (xs ++ a ∷ []) (front ++ ReadyForQuery s ∷ [])
open_front_one [] [] a s y u p =
    let e = p.1 in
    let head : a ≡ ReadyForQuery s = cc in
    ([], ap (λ (b : BackendMessage). b ∷ []) head)
open_front_one [] (b ∷ bs) a s y u p =
    let e = p.1 in
    let head : a ≡ b = cc in
    (bs ++ ReadyForQuery s ∷ [], ap (λ (c : BackendMessage). c ∷ bs ++ ReadyForQuery s ∷ []) head)
open_front_one (x ∷ xs) [] a s y u p =
    let e = p.1 in
    let head : x ≡ ReadyForQuery s = cc in
    absurd (subst IsUnready head u.0)
open_front_one (x ∷ xs) (b ∷ bs) a s y u p =
    let e = p.1 in
    let head : x ≡ b = cc in
    let tails : (xs ++ a ∷ []) ++ p.0 ≡ bs ++ ReadyForQuery s ∷ y = cc in
    let further = open_front_one xs bs a s y u.1 (p.0, tails) in
    (further.0, ap₂ (λ (c : BackendMessage) (cs : List BackendMessage). c ∷ cs) head further.1)

-- some server between two groups begins its response to the group so
record Begins (g : List FrontendMessage) (part : List BackendMessage) : Type 0 where
  old : Server
  new : Server
  answers : List (List BackendMessage)
  between : IsBetween old
  run : ServerRun old g answers new
  answered : AllByRecursion HasBackendFrame (flat_map (λ rs. rs) answers)
  begins : IsPrefixOf part (flat_map (λ rs. rs) answers)

own_begins : (old after : Server) (gs : List (List FrontendMessage)) (ps : List (List BackendMessage)) (g more : List FrontendMessage) (own : List BackendMessage) (a : BackendMessage) (rss : List (List BackendMessage))
    → AllByRecursion IsGroup gs → IsGroup g → IsBetween old → ServerRun old (flat_map (λ x. x) gs ++ (g ++ more)) rss after → AllByRecursion HasBackendFrame (flat_map (λ rs. rs) rss)
    → AllByRecursion EndsReady ps → length ps ≡ length gs → AreUnready own → IsPrefixOf (flat_map (λ p. p) ps ++ (own ++ a ∷ [])) (flat_map (λ rs. rs) rss) → Begins g (own ++ a ∷ [])
own_begins old after [] [] g more own a rss hs h b run ok ends len u p =
    let t = run_split old after g more rss run in
    let one = group_answers old t.mid g t.front h b t.begins in
    let e = split_answers t.front t.further rss one.0 t.parts in
    let near = open_front_one own one.0.front a one.0.status (flat_map (λ rs. rs) t.further) u (subst (IsPrefixOf (own ++ a ∷ [])) e p) in
    let flat : flat_map (λ (rs : List BackendMessage). rs) rss ≡ flat_map (λ rs. rs) t.front ++ flat_map (λ rs. rs) t.further = ap (flat_map (λ (rs : List BackendMessage). rs)) t.parts ∙ flat_map-append (λ rs. rs) t.front t.further in
    record {
      old = old;
      new = t.mid;
      answers = t.front;
      between = b;
      run = t.begins;
      answered = (all_split HasBackendFrame (flat_map (λ rs. rs) t.front) (flat_map (λ rs. rs) t.further) (subst (AllByRecursion HasBackendFrame) flat ok)).0;
      begins = subst (IsPrefixOf (own ++ a ∷ [])) (sym one.0.are) near;
    }
own_begins old after [] (q ∷ ps) g more own a rss hs h b run ok ends len u p = absurd (omega (arith, len))
own_begins old after (x ∷ gs) [] g more own a rss hs h b run ok ends len u p = absurd (omega (arith, len))
own_begins old after (x ∷ gs) (q ∷ ps) g more own a rss hs h b run ok ends len u p =
    let part = own ++ a ∷ [] in
    let run' = subst (λ (s : List FrontendMessage). ServerRun old s rss after) (append_assoc x (flat_map (λ y. y) gs) (g ++ more)) run in
    let t = run_split old after x (flat_map (λ y. y) gs ++ (g ++ more)) rss run' in
    let one = group_answers old t.mid x t.front hs.0 b t.begins in
    let e = split_answers t.front t.further rss one.0 t.parts in
    let r = ends.0 in
    let left : flat_map (λ y. y) (q ∷ ps) ++ part ≡ r.front ++ ReadyForQuery r.status ∷ (flat_map (λ y. y) ps ++ part) =
    ap (λ (w : List BackendMessage). (w ++ flat_map (λ y. y) ps) ++ part) r.are ∙ regroup r.front (ReadyForQuery r.status) (flat_map (λ y. y) ps) part in
    let both = same_ready r.front one.0.front r.status one.0.status (flat_map (λ y. y) ps ++ part) (flat_map (λ rs. rs) t.further) r.unready one.0.unready
    (subst (λ (w : List BackendMessage). IsPrefixOf w (one.0.front ++ ReadyForQuery one.0.status ∷ flat_map (λ rs. rs) t.further)) left (subst (IsPrefixOf (flat_map (λ y. y) (q ∷ ps) ++ part)) e p)) in
    let flat : flat_map (λ (rs : List BackendMessage). rs) rss ≡ flat_map (λ rs. rs) t.front ++ flat_map (λ rs. rs) t.further = ap (flat_map (λ (rs : List BackendMessage). rs)) t.parts ∙ flat_map-append (λ rs. rs) t.front t.further in
    own_begins t.mid after gs ps g more own a t.further hs.1 h one.1 t.goes_on (all_split HasBackendFrame (flat_map (λ rs. rs) t.front) (flat_map (λ rs. rs) t.further) (subst (AllByRecursion HasBackendFrame) flat ok)).1 ends.1 (omega (arith, len)) u both
  where
    regroup : (a : List BackendMessage) (z : BackendMessage) (b c : List BackendMessage) → ((a ++ z ∷ []) ++ b) ++ c ≡ a ++ z ∷ (b ++ c)
    regroup a z b c = simp append_assoc

pub prefix_map : (xs rs : List BackendMessage) → IsPrefixOf xs rs → IsPrefixOf (map backend_frame xs) (map backend_frame rs)
prefix_map xs rs p = (map backend_frame p.0, sym (map-append backend_frame xs p.0) ∙ ap (map backend_frame) p.1)

run_at : (groups own : List Group) (group : Group) (more : List FrontendMessage) → own ≡ group ∷ [] → said_in (groups ++ own) ++ more ≡ flat_map (λ x. x) groups ++ (group ++ more)
run_at groups own group more e =
    ap (λ (g : List Group). said_in (groups ++ g) ++ more) e ∙ ap (λ (s : List FrontendMessage). s ++ more) (flat_map-append (λ g. g) groups (group ∷ []))
    ∙ ap (λ (s : List FrontendMessage). (said_in groups ++ s) ++ more) (append-nil group) ∙ append_assoc (said_in groups) group more

-- behind as many responses as groups, what is heard begins a response to the next group
pub lawful_begins : (groups own : List Group) (group : Group) (heards part : List Frame) (front : Frame) → AllByRecursion IsGroup groups → IsGroup group → own ≡ group ∷ [] → MayHear (said_in (groups ++ own)) (heards ++ front ∷ [])
    → count_by is_ready heards ≡ length groups → after_readys (length groups) heards ≡ part → BeginsCopyResponse group (part ++ front ∷ [])
lawful_begins groups own group heards part front gs g e l c b =
    let s = split_front heards front l.heard_is.0 (flat_map (λ rs. rs) l.replies) l.heard_is.1 in
    let p = parted s.before (length groups) (ap (λ (x : List Frame). count_by is_ready x) (sym s.heards_are) ∙ c) in
    let whole : (flat_map (λ q. q) p.ps ++ (p.own ++ s.message ∷ [])) ++ s.behind ≡ flat_map (λ rs. rs) l.replies =
    ap (λ (t : List BackendMessage). t ++ s.behind) (sym (append_assoc (flat_map (λ q. q) p.ps) p.own (s.message ∷ []))) ∙ ap (λ (t : List BackendMessage). (t ++ s.message ∷ []) ++ s.behind) (sym p.whole) ∙ append_assoc s.before (s.message ∷ []) s.behind ∙ sym s.whole in
    let run = subst (λ (t : List FrontendMessage). ServerRun fresh_server t l.replies l.after) (run_at groups own group l.more e) l.run in
    let o = own_begins fresh_server l.after groups p.ps group l.more p.own s.message l.replies gs g (refl, refl) run l.replies_have_frames p.ended p.count p.unready (s.behind, whole) in
    let said : map backend_frame (p.own ++ s.message ∷ []) ≡ part ++ front ∷ [] =
    map-append backend_frame p.own (s.message ∷ []) ∙ ap (λ (t : List Frame). t ++ backend_frame s.message ∷ []) (p.behind ∙ ap (after_readys (length groups)) (sym s.heards_are) ∙ b) ∙ ap (λ (m : Frame). part ++ m ∷ []) (sym s.front_is) in
    response_begins_copy_response group o.old o.new o.answers (part ++ front ∷ []) o.between o.run o.answered
    (subst (λ (t : List Frame). IsPrefixOf t (map backend_frame (flat_map (λ rs. rs) o.answers))) said (prefix_map (p.own ++ s.message ∷ []) (flat_map (λ rs. rs) o.answers) o.begins))
