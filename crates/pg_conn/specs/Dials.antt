-- What is seen of a dial.
use Rattle.std.specs.Prelude.{◌≡◌, ◌⊎◌, ℕ, ◌+◌, ◌-◌, ◌^◌, min, true, false, List, [], ◌∷◌, Option, Some, None, Result, Ok, Err}
use Rattle.pg_options.specs.Options.{ConnectOptions}
use Rattle.pg_stream.specs.Links.{LinkSeen}
use Rattle.pg_stream.specs.Memory.{seen_of}
use Rattle.pg_stream.specs.MemoryOutside.{next_call, fails_next}
use Rattle.pg_stream.specs.declared.memory.MemoryLink.{MemoryLink}
use Rattle.pg_conn.specs.declared.dial.DialFailed.{DialFailed}
use Rattle.pg_conn.specs.declared.dial.DialFailed.TheVariants as failed

-- How many links and words a dial handed out, and its faults. Each count stops at its type's end.
pub record DialSeen : Type 0 where
  pub links : ℕ
  pub words : ℕ
  pub faults : ℕ

abbrev pub one_more : ℕ → ℕ
one_more n = min (n + 1) (2 ^ 64 - 1)

abbrev pub failed_by : DialSeen → DialFailed → DialSeen
failed_by a failed.Fault = record { links = a.links; words = a.words; faults = one_more a.faults }
failed_by a failed.OutOfMemory = a

-- a link is counted, or a fault is
abbrev pub CountsLink : {A : Type 0} → DialSeen → DialSeen → Result A DialFailed → Type 0
CountsLink a b (Ok _) = b ≡ record { links = one_more a.links; words = a.words; faults = a.faults }
CountsLink a b (Err e) = b ≡ failed_by a e

-- a word is counted, or a fault is
abbrev pub CountsWord : {A : Type 0} → DialSeen → DialSeen → Result A DialFailed → Type 0
CountsWord a b (Ok _) = b ≡ record { links = a.links; words = one_more a.words; faults = a.faults }
CountsWord a b (Err e) = b ≡ failed_by a e

-- nothing, where it is told
abbrev pub NoneTold : Option (List ℕ) → Type 0
NoneTold None = Unit {0}
NoneTold (Some told) = told ≡ []

-- a link that was not called yet
pub record IsUncalled (link : LinkSeen) : Type 0 where
  pub secured : link.secured ≡ None
  pub given : NoneTold link.given
  pub taken : NoneTold link.taken
  pub wait_places : NoneTold link.wait_places
  pub read_places : NoneTold link.read_places
  pub calls : link.calls ≡ 0
  pub moved : link.moved ≡ 0
  pub read_waits : link.read_waits ≡ 0
  pub write_waits : link.write_waits ≡ 0
  pub ends : link.ends ≡ 0
  pub faults : link.faults ≡ 0
  pub upgrade_faults : link.upgrade_faults ≡ 0

abbrev pub AreUncalled : List MemoryLink → Type 0
AreUncalled [] = Unit {0}
AreUncalled (link ∷ rest) = IsUncalled (seen_of link) × AreUncalled rest

-- A dial in memory: the links and words that are left, the calls that fail, the calls so far, and what is seen of it.
pub record MemoryDialState : Type 0 where
  pub links : List MemoryLink
  pub words : List ℕ
  pub failing : List ℕ
  pub calls : ℕ
  pub seen : DialSeen

abbrev pub nothing_seen : DialSeen
nothing_seen = record { links = 0; words = 0; faults = 0 }

-- a call of either kind counts, and changes nothing of what is to fail
abbrev pub IsNextCall : MemoryDialState → MemoryDialState → Type 0
IsNextCall a b = (b.calls ≡ next_call a.calls) × (b.failing ≡ a.failing)

-- a link is the next one, and only a call that is to fail or a list without links gives none
abbrev pub GivesLink : MemoryDialState → MemoryDialState → Result MemoryLink DialFailed → Type 0
GivesLink a b (Ok link) = (fails_next a.failing a.calls ≡ false) × (a.links ≡ link ∷ b.links) × (b.words ≡ a.words)
GivesLink a b (Err e) = (fails_next a.failing a.calls ≡ true ⊎ (a.links ≡ [])) × (e ≡ failed.Fault) × (b.links ≡ a.links) × (b.words ≡ a.words)

-- a word is the next one, and 0 behind the list
abbrev pub word_of : List ℕ → ℕ
word_of [] = 0
word_of (word ∷ _) = word

abbrev pub words_after : List ℕ → List ℕ
words_after [] = []
words_after (_ ∷ rest) = rest

abbrev pub GivesWord : MemoryDialState → MemoryDialState → Result ℕ DialFailed → Type 0
GivesWord a b (Ok word) = (fails_next a.failing a.calls ≡ false) × (word ≡ word_of a.words) × (b.words ≡ words_after a.words) × (b.links ≡ a.links)
GivesWord a b (Err e) = (fails_next a.failing a.calls ≡ true) × (e ≡ failed.Fault) × (b.words ≡ a.words) × (b.links ≡ a.links)

-- ---- a link and words

-- a dial hands out these words, one after another
abbrev pub Draws : {D : Type 0} → (D → ℕ → D → Type 0) → D → List ℕ → D → Type 0
Draws draws d [] e = e ≡ d
Draws {D} draws d (word ∷ words) e = (next : D) × draws d word next × Draws draws next words e

-- it hands out a link for these options, and then these words
abbrev pub HandsOut : {D A : Type 0} → (D → ConnectOptions → A → D → Type 0) → (D → ℕ → D → Type 0) → D → D → ConnectOptions → A → List ℕ → Type 0
HandsOut {D} gives draws d e o link words = (dialed : D) × gives d o link dialed × Draws draws dialed words e
