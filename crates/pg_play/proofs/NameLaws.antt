-- Which statements a lawful server has, of those that are kept.
use Rattle.std.proofs.Common.{◌≡◌, ◌≢◌, ℕ, suc, ◌+◌, ◌<◌, ◌≤◌, Bool, true, false, cond, List, [], ◌∷◌, ◌++◌, length, map, option_to_list, flat_map, refl, sym, ap, ◌∙◌, subst, append_assoc, append-nil, arith, ne_eqb, inl, inr, bytes_eq, Some, None}
use Rattle.std.specs.List.{AllByRecursion, count_by}
use Rattle.std.proofs.lemmas.List.{map-append}
use Rattle.std.proofs.lemmas.Slice.Eq.{bytes_eq-Decides}
use Rattle.pg_play.proofs.ColumnLaws.{told_width}
use Rattle.pg_wire.specs.Frame.{Frame}
use Rattle.pg_wire.specs.Parts.{is_ready, parts, onto_first, heard}
use Rattle.pg_wire.specs.Frontend.{statement_name}
use Rattle.pg_wire.specs.Pieces.{PiecesOf}
use Rattle.pg_wire.specs.Backend.{BackendMessage, ReadyForQuery, backend_frame, HasBackendFrame}
use Rattle.pg_wire.specs.Server.{Server, IsPrefixOf, fresh_server}
use Rattle.pg_wire.specs.Groups.{AnswerGroups, AreUnready, EndsReady, IsGroup}
use Rattle.pg_exchanges.specs.Answering.{described, describing, IsNoError}
use Rattle.pg_exchanges.specs.Expecting.{AreDistinct, width_at}
use Rattle.pg_exchanges.specs.Keeping.{Keeps as ServerKeeps, IsDescribedIn, Named, Spares}
use Rattle.pg_exchanges.proofs.KeptLaws.{described_is_kept}
use Rattle.pg_rule.specs.declared.cache.Entry.{Entry}
use Rattle.pg_rule.specs.Caches.{widths_in}
use Rattle.pg_call.specs.Requests.{Group, name_of}
use Rattle.pg_call.specs.Drains.{after_readys}
use Rattle.pg_call.proofs.DrainLaws.{count-cons}
use Rattle.pg_play.specs.Places.{Place}
use Rattle.pg_play.specs.Kept.{IsKeptAt, Keeps, named_of}
use Rattle.pg_rule.proofs.OrderLaws.{each_by}
use Rattle.pg_play.proofs.KnownLaws.{unready_frame, whole_frames}
use Rattle.pg_play.proofs.PlaceLaws.{all_split}
use Rattle.pg_wire.proofs.Each.{each_first}

-- ---- the statements that are kept

pub each_two : {A : Type 0} (P Q : A → Type 0) (xs : List A) → AllByRecursion P xs → AllByRecursion Q xs → AllByRecursion (λ x. P x × Q x) xs
each_two P Q [] p q = tt
each_two P Q (x ∷ xs) p q = ((p.0, q.0), each_two P Q xs p.1 q.1)

-- a number above 0 is that of a name
pub named_some : (n : ℕ) → 0 < n → name_of n ≡ statement_name n
named_some n h = ap (λ (b : Bool). cond b [] (statement_name n)) (ne_eqb n 0 (λ z. absurd (omega (arith, h, z))))

pub named_nothing : (n : ℕ) → 0 < n → name_of n ≢ []
named_nothing n h e = nonempty n (sym (named_some n h) ∙ e)
  where
    nonempty : (n : ℕ) → statement_name n ≡ [] → ⊥
    nonempty n e = cc

pub each_known : (at : Place) → Keeps at → AllByRecursion (λ e. (0 < e.statement) × IsKeptAt at e) at.rule.cache.entries
each_known at k = each_two (λ e. 0 < e.statement) (IsKeptAt at) at.rule.cache.entries (each_by (λ e. (0 < e.statement) × (e.statement < at.rule.next)) (λ e. 0 < e.statement) (λ e h. h.0) at.rule.cache.entries k.orderly.numbered)
    (all_split (IsKeptAt at) (option_to_list at.rule.cache.held) at.rule.cache.entries k.kept).1

-- ---- the parts of frames

parts_front : (front : List Frame) (z : Frame) (more : List Frame) → count_by is_ready front ≡ 0 → is_ready z ≡ true → parts (front ++ z ∷ more) ≡ (front ++ z ∷ []) ∷ parts more
parts_front [] z more c r = ap (λ (b : Bool). cond b ((z ∷ []) ∷ parts more) (onto_first z (parts more))) r
parts_front (f ∷ fs) z more c r = by (is_ready f) (λ n. parts_front fs z more n r) (omega (arith, c, count-cons is_ready f fs))
  where
    by : (b : Bool) → (count_by is_ready fs ≡ 0 → parts (fs ++ z ∷ more) ≡ (fs ++ z ∷ []) ∷ parts more) → cond b 1 0 + count_by is_ready fs ≡ 0 → cond b ((f ∷ []) ∷ parts (fs ++ z ∷ more)) (onto_first f (parts (fs ++ z ∷ more))) ≡ (f ∷ (fs ++ z ∷ [])) ∷ parts more
    by true g n = absurd (omega (arith, n))
    by false g n = ap (onto_first f) (g (omega (arith, n)))

-- the first response of those that were heard whole
record FirstPart (hs : List Frame) : Type 0 where
  front : List Frame
  last : Frame
  more : List Frame
  are : hs ≡ front ++ last ∷ more
  unready : count_by is_ready front ≡ 0
  ready : is_ready last ≡ true

first_part : (hs : List Frame) → 1 ≤ count_by is_ready hs → FirstPart hs
first_part [] l = absurd (omega (arith, l))
first_part (f ∷ fs) l = by (is_ready f) refl (λ n. first_part fs n) (omega (arith, l, count-cons is_ready f fs))
  where
    by : (b : Bool) → is_ready f ≡ b → (1 ≤ count_by is_ready fs → FirstPart fs) → 1 ≤ cond b 1 0 + count_by is_ready fs → FirstPart (f ∷ fs)
    by true e g n = record { front = []; last = f; more = fs; are = refl; unready = refl; ready = e }
    by false e g n =
        let r = g (omega (arith, n)) in
        let none : cond (is_ready f) 1 0 ≡ 0 = ap {B = ℕ} (λ (b : Bool). cond b 1 0) e in
        record { front = f ∷ r.front; last = r.last; more = r.more; are = ap (λ (t : List Frame). f ∷ t) r.are; unready = omega (arith, r.unready, count-cons is_ready f r.front, none); ready = r.ready }

-- behind it stand the others
after_first : (front : List Frame) (z : Frame) (more : List Frame) (n : ℕ) → count_by is_ready front ≡ 0 → is_ready z ≡ true → after_readys (suc n) (front ++ z ∷ more) ≡ after_readys n more
after_first [] z more n c r = ap (λ (b : Bool). after_readys (cond b n (suc n)) more) r
after_first (f ∷ fs) z more n c r = by (is_ready f) (λ k. after_first fs z more n k r) (omega (arith, c, count-cons is_ready f fs))
  where
    by : (b : Bool) → (count_by is_ready fs ≡ 0 → after_readys (suc n) (fs ++ z ∷ more) ≡ after_readys n more) → cond b 1 0 + count_by is_ready fs ≡ 0 → after_readys (cond b n (suc n)) (fs ++ z ∷ more) ≡ after_readys n more
    by true g k = absurd (omega (arith, k))
    by false g k = g (omega (arith, k))

count_first : (front : List Frame) (z : Frame) (more : List Frame) → count_by is_ready front ≡ 0 → is_ready z ≡ true → count_by is_ready (front ++ z ∷ more) ≡ count_by is_ready more + 1
count_first [] z more c r =
    let one : cond (is_ready z) 1 0 ≡ 1 = ap {B = ℕ} (λ (b : Bool). cond b 1 0) r in
    omega (arith, count-cons is_ready z more, one)
count_first (f ∷ fs) z more c r = omega (arith, c, count-cons is_ready f fs, count-cons is_ready f (fs ++ z ∷ more), count_first fs z more (omega (arith, c, count-cons is_ready f fs)) r)

pieces_behind : {X : Type 0} (xs : List X) (xss : List (List X)) (ys : List X) (yss : List (List X)) → PiecesOf (xs ∷ xss) (ys ∷ yss) → PiecesOf xss yss
pieces_behind xs [] ys yss h = tt
pieces_behind xs (zs ∷ xss) ys yss h = h.1

piece_begins : {X : Type 0} (xs : List X) (xss : List (List X)) (ys : List X) (yss : List (List X)) → PiecesOf (xs ∷ xss) (ys ∷ yss) → IsPrefixOf xs ys
piece_begins xs [] ys yss h = h
piece_begins xs (zs ∷ xss) ys yss h = ([], append-nil xs ∙ h.0)

-- ---- a statement was described in these groups

told_part : (told : List BackendMessage) (more : List Frame) (hs : List Frame) → EndsReady told → hs ≡ map backend_frame told ++ more → parts hs ≡ map backend_frame told ∷ parts more
told_part told more hs e is =
    let front = map backend_frame e.front in
    let z = backend_frame (ReadyForQuery e.status) in
    let same : map backend_frame told ≡ front ++ z ∷ [] = ap (map backend_frame) e.are ∙ map-append backend_frame e.front (ReadyForQuery e.status ∷ []) in
    ap parts (is ∙ ap (λ (t : List Frame). t ++ more) same ∙ append_assoc front (z ∷ []) more) ∙ parts_front front z more (unready_count e.front e.unready) refl ∙ ap (λ (t : List Frame). t ∷ parts more) (sym same)
  where
    unready_count : (ms : List BackendMessage) → AreUnready ms → count_by is_ready (map backend_frame ms) ≡ 0
    unready_count [] u = refl
    unready_count (m ∷ ms) u =
        let none : cond (is_ready (backend_frame m)) 1 0 ≡ 0 = ap {B = ℕ} (λ (b : Bool). cond b 1 0) (unready_frame m u.0) in
        omega (arith, count-cons is_ready (backend_frame m) (map backend_frame ms), none, unready_count ms u.1)

described_in : (n : Named) (before : List Group) (types : List ℕ) (later : List Group) (responses : List (List BackendMessage)) (told : List BackendMessage) (hs more : List Frame) (old after : Server) → AnswerGroups old (before ++ describing n.name n.sql types ∷ later) responses after → AllByRecursion HasBackendFrame (flat_map (λ r. r) responses)
    → PiecesOf (parts hs) (map (map backend_frame) responses) → after_readys (length before) hs ≡ map backend_frame told ++ more → length before + 1 ≤ count_by is_ready hs → EndsReady told → AllByRecursion HasBackendFrame told → AllByRecursion IsNoError told → length (described told) ≡ n.width → AllByRecursion (Spares n) later
    → IsDescribedIn n (before ++ describing n.name n.sql types ∷ later) responses
described_in n before types later [] told hs more old after a h p begun read ends frames well width spared = absurd (none before a)
  where
    none : (before : List Group) → AnswerGroups old (before ++ describing n.name n.sql types ∷ later) [] after → ⊥
    none [] a = a
    none (g ∷ gs) a = a
described_in n [] types later (r ∷ rs) told hs more old after a h p begun read ends frames well width spared =
    let begins = piece_begins (map backend_frame told) (parts more) (map backend_frame r) (map (map backend_frame) rs) (subst (λ (x : List (List Frame)). PiecesOf x (map (map backend_frame) (r ∷ rs))) (told_part told more hs ends begun) p) in
    let framed = each_first HasBackendFrame r (flat_map (λ x. x) rs) h in
    let same = whole_frames r told [] begins.0 a.4 ends framed frames (append-nil (map backend_frame r) ∙ sym begins.1) in
    inr ((types, refl, subst (AllByRecursion IsNoError) (sym same.same) well, ap (λ (t : List BackendMessage). length (described t)) same.same ∙ width), spared)
described_in n (g ∷ gs) types later (r ∷ rs) told hs more old after a h p begun read ends frames well width spared =
    let f = first_part hs (omega (arith, read)) in
    let cut : parts hs ≡ (f.front ++ f.last ∷ []) ∷ parts f.more = ap parts f.are ∙ parts_front f.front f.last f.more f.unready f.ready in
    let behind : after_readys (length gs) f.more ≡ map backend_frame told ++ more = sym (ap (after_readys (suc (length gs))) f.are ∙ after_first f.front f.last f.more (length gs) f.unready f.ready) ∙ begun in
    let count : length gs + 1 ≤ count_by is_ready f.more = omega (arith, read, ap (λ (t : List Frame). count_by is_ready t) f.are, count_first f.front f.last f.more f.unready f.ready) in
    inl (described_in n gs types later rs told f.more more a.0 after a.5 (all_split HasBackendFrame r (flat_map (λ x. x) rs) h).1
    (pieces_behind (f.front ++ f.last ∷ []) (parts f.more) (map backend_frame r) (map (map backend_frame) rs) (subst (λ (x : List (List Frame)). PiecesOf x (map (map backend_frame) (r ∷ rs))) cut p)) behind count ends frames well width spared)

one_kept : (at : Place) (responses : List (List BackendMessage)) (after : Server) (e : Entry) → AllByRecursion IsGroup at.groups → AnswerGroups fresh_server at.groups responses after → AllByRecursion HasBackendFrame (flat_map (λ r. r) responses) → PiecesOf (parts (heard at.frames)) (map (map backend_frame) responses)
    → (0 < e.statement) × IsKeptAt at e → ServerKeeps after (named_of e)
one_kept at responses after e gs a h p (positive, k) =
    described_is_kept (named_of e) at.groups responses fresh_server after (named_nothing e.statement positive) (refl, refl) gs a
    (subst (λ (g : List Group). IsDescribedIn (named_of e) g responses) (sym k.groups)
    (described_in (named_of e) k.before k.types k.later responses k.told (heard at.frames) k.more fresh_server after (subst (λ (g : List Group). AnswerGroups fresh_server g responses after) k.groups a) h p k.answered k.read k.ends k.has_frames k.well (told_width (described k.told) e.columns k.columns) k.spared))

-- a lawful server has each statement that is kept
pub names_kept : (at : Place) (responses : List (List BackendMessage)) (after : Server) → AllByRecursion IsGroup at.groups → Keeps at → AnswerGroups fresh_server at.groups responses after → AllByRecursion HasBackendFrame (flat_map (λ r. r) responses) → PiecesOf (parts (heard at.frames)) (map (map backend_frame) responses)
    → AllByRecursion (λ e. ServerKeeps after (named_of e)) at.rule.cache.entries
names_kept at responses after gs kept a h p = by at.rule.cache.entries (each_known at kept)
  where
    by : (es : List Entry) → AllByRecursion (λ e. (0 < e.statement) × IsKeptAt at e) es → AllByRecursion (λ e. ServerKeeps after (named_of e)) es
    by [] k = tt
    by (e ∷ es) k = (one_kept at responses after e gs a h p k.0, by es k.1)

-- ---- names

present_name : (xs : List ℕ) → bytes_eq xs xs ≡ true
present_name xs = (bytes_eq-Decides xs xs).1 refl

-- of distinct names none before one is its
pub apart_last : (others : List Entry) (last : Entry) → AreDistinct (widths_in (others ++ last ∷ [])) → AllByRecursion (λ e. statement_name e.statement ≢ statement_name last.statement) others
apart_last [] last d = tt
apart_last (e ∷ es) last d = (λ same. absurd (named_in es last (subst (λ (n : List ℕ). width_at (widths_in (es ++ last ∷ [])) n ≡ None) same d.0)), apart_last es last d.1)
  where
    named_in : (es : List Entry) (last : Entry) → width_at (widths_in (es ++ last ∷ [])) (statement_name last.statement) ≡ None → ⊥
    named_in [] last h = let yes = present_name (statement_name last.statement) in let none = rw yes at h in absurd cc
    named_in (f ∷ fs) last h = by (bytes_eq (statement_name f.statement) (statement_name last.statement)) h (λ k. named_in fs last k)
      where
        by : (b : Bool) → cond b (Some (length f.columns)) (width_at (widths_in (fs ++ last ∷ [])) (statement_name last.statement)) ≡ None → (width_at (widths_in (fs ++ last ∷ [])) (statement_name last.statement) ≡ None → ⊥) → ⊥
        by true k g = absurd cc
        by false k g = g k
