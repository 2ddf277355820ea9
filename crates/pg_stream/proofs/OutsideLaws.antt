-- A source that is read piece by piece, and a text that goes out piece by piece.
use Rattle.std.proofs.Common.{◌≡◌, ℕ, ◌+◌, ◌-◌, ◌≤◌, ◌<◌, List, [], ◌++◌, length, take, drop, Option, Some, None, true, false, refl, sym, ap, ◌∙◌, arith, append_assoc, length-append, length-drop, take_all, take-add, Bool, nat_eq, min, max, ne_eqb}
use Rattle.std.specs.Io.KnownBytes.{Keeps, Appends, Consumes}
use Rattle.std.proofs.lemmas.List.{append-nil, drop-drop, take-take, take_rest, take-append-drop}
use Rattle.pg_stream.specs.declared.outside.SinkWrite.TheVariants.{Moved, Failed}
use Rattle.pg_stream.specs.declared.gather.Gathered.{Gathered}
use Rattle.pg_stream.specs.declared.gather.Gathered.TheVariants as gathered
use Rattle.std.specs.List.{list_any}
use Rattle.pg_stream.specs.declared.outside.SourceRead.TheVariants as reads
use Rattle.pg_stream.specs.MemoryOutside.{MemorySourceState, next_call, fails_next, source_read}
use Rattle.pg_stream.specs.Outside.{SourceSeen, SinkSeen, SinkTakes, Sent, GathersOnce, ReadAll}
use Rattle.pg_stream.proofs.Known.{Appends-then, Appends-from_keeps, Appends-refl}

-- these bytes were read
pub record ReadSo (a b : SourceSeen) (bytes : List ℕ) : Type 0 where
  pub left : Consumes a.left b.left bytes
  pub faults : b.faults ≡ a.faults

Consumes-then : (a b c : Option (List ℕ)) (x y : List ℕ) → Consumes a b x → Consumes b c y → Consumes a c (x ++ y)
Consumes-then None b c x y p q = tt
Consumes-then (Some s) None c x y p q = absurd p
Consumes-then (Some s) (Some t) None x y p q = absurd q
Consumes-then (Some s) (Some t) (Some u) x y p q = p ∙ ap (λ (z : List ℕ). x ++ z) q ∙ sym (append_assoc x y u)

Consumes-refl : (a : Option (List ℕ)) → Consumes a a []
Consumes-refl None = tt
Consumes-refl (Some s) = refl

Consumes-kept : (a b c : Option (List ℕ)) (x : List ℕ) → Consumes a b x → Keeps b c → Consumes a c x
Consumes-kept None b c x p k = tt
Consumes-kept (Some s) None c x p k = absurd p
Consumes-kept (Some s) (Some t) None x p k = absurd k
Consumes-kept (Some s) (Some t) (Some u) x p k = p ∙ ap (λ (z : List ℕ). x ++ z) (sym k)

pub read_start : (a : SourceSeen) (bytes : List ℕ) → bytes ≡ [] → ReadSo a a bytes
read_start a bytes e = record { left = rw e (Consumes-refl a.left); faults = refl }

pub read_more : (a b c : SourceSeen) (old new : List ℕ) → ReadSo a b old → GathersOnce b c None old new → ReadSo a c new × (length old < length new)
read_more a b c old new s t = (record { left = rw t.1 (Consumes-then a.left b.left c.left old t.0 s.left t.3); faults = t.4 ∙ s.faults }, omega (arith, ap length t.1, length-append old t.0))

pub read_end : (a b c : SourceSeen) (old new : List ℕ) (end : Gathered) → length old ≤ 67108864 → ReadSo a b old → GathersOnce b c (Some end) old new → ReadAll a c end new
read_end a b c old new gathered.Whole le s t = (rw t.3 (Consumes-kept a.left b.left c.left old s.left t.0), t.1, t.2 ∙ s.faults, rw t.3 le)
read_end a b c old new gathered.TooLong le s t = absurd t
read_end a b c old new gathered.Failed le s t = (rw t.2 (Consumes-kept a.left b.left c.left old s.left t.0), rw (← s.faults) t.1)
read_end a b c old new gathered.OutOfMemory le s t = t ∙ s.faults

-- a front of the text went out, and this is the rest
pub record SentSo (a b : SinkSeen) (text rest : List ℕ) : Type 0 where
  pub n : ℕ
  pub rest_is : rest ≡ drop n text
  pub taken : Appends a.taken b.taken (take n text)
  pub faults : b.faults ≡ a.faults

pub sent_start : (a : SinkSeen) (text : List ℕ) → SentSo a a text text
sent_start a text = record { n = 0; rest_is = refl; taken = Appends-refl a.taken; faults = refl }

goes_on : (a b c : SinkSeen) (text rest : List ℕ) (n m : ℕ) → rest ≡ drop n text → Appends a.taken b.taken (take n text) → Appends b.taken c.taken (take m rest) → Appends a.taken c.taken (take (n + m) text)
goes_on a b c text rest n m e p q =
    let q' : Appends b.taken c.taken (take m (drop n text)) = rw e at q in
    rw (take-add n m text) (Appends-then a.taken b.taken c.taken (take n text) (take m (drop n text)) p q')

pub sent_more : (a b c : SinkSeen) (text rest : List ℕ) (m : ℕ) → SentSo a b text rest → SinkTakes b c (Moved m) rest → SentSo a c text (take (length rest - m) (drop m rest))
sent_more a b c text rest m s t = record {
  n = s.n + m;
  rest_is = take_all (length rest - m) (drop m rest) (omega (arith, length-drop m rest)) ∙ ap (drop m) s.rest_is ∙ drop-drop m s.n text;
  taken = goes_on a b c text rest s.n m s.rest_is s.taken t.2;
  faults = t.3 ∙ s.faults;
}

pub sent_failed : (a b c : SinkSeen) (text rest : List ℕ) → SentSo a b text rest → SinkTakes b c Failed rest → Sent a c false text
sent_failed a b c text rest s t = (s.n, rw (← append-nil (take s.n text)) (Appends-then a.taken b.taken c.taken (take s.n text) [] s.taken (Appends-from_keeps b.taken c.taken t.0)), rw (← s.faults) t.1)

pub sent_all : (a b : SinkSeen) (text rest : List ℕ) → SentSo a b text rest → length rest ≡ 0 → Sent a b true text
sent_all a b text rest s e =
    let le : length text ≤ s.n = omega (arith, length-drop s.n text, ap length s.rest_is) in
    (rw (take_all s.n text le) at s.taken, s.faults)

-- what was copied is the front of what was left, where it was copied from the first k bytes of it
pub source_gives : (bytes copy into : List ℕ) (given k count : ℕ) → copy ≡ bytes → count ≤ k
    → take count into ≡ take count (take k (take (length copy - given) (drop given copy)))
    → drop given bytes ≡ take count into ++ drop (given + count) bytes
source_gives bytes copy into given k count e le t =
    let rest : take (length copy - given) (drop given copy) ≡ drop given bytes = take_rest copy given ∙ ap (drop given) e in
    let front : take count into ≡ take count (drop given bytes) = t ∙ take-take count k (take (length copy - given) (drop given copy)) le ∙ ap (take count) rest in
    sym (take-append-drop count (drop given bytes)) ∙ ap (λ (xs : List ℕ). xs ++ drop count (drop given bytes)) (sym front)
    ∙ ap (λ (xs : List ℕ). take count into ++ xs) (drop-drop count given bytes)

-- ---- in memory

-- what was asked of the list of calls that fail
pub call_tested : (failing items : List ℕ) (calls n : ℕ) (hit : Bool) → items ≡ failing → n ≡ next_call calls → hit ≡ list_any (λ y. nat_eq y n) items → hit ≡ fails_next failing calls
call_tested failing items calls n hit s m a = a ∙ ap (λ (k : ℕ). list_any (λ y. nat_eq y k) items) m ∙ ap (λ (xs : List ℕ). list_any (λ y. nat_eq y (next_call calls)) xs) s

pub read_moved : (a : MemorySourceState) (size count : ℕ) → fails_next a.failing a.calls ≡ false → 0 < length a.left → count ≡ min (min (length a.left) (max a.most 1)) size → reads.Moved count ≡ source_read a size
read_moved a size count open' some n =
    let more : nat_eq (length a.left) 0 ≡ false = ne_eqb (length a.left) 0 (λ e. omega (arith, e, some)) in
    rw (open', more, n) refl
