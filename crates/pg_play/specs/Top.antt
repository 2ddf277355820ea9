-- The program, from the bytes that it reads to the bytes that it writes.
use Rattle.std.specs.Prelude.{ℕ, ◌≡◌, ◌≢◌, ◌≤◌, ◌++◌, ◌∷◌, ◌⊎◌, [], List, Option, Some, None, Result, Ok, Err, Bool, true, false, String, string_bytes, codes, take, length, replicate, unwrap_or}
use Rattle.std.specs.declared.alloc.Global.{Global}
use Rattle.std.specs.Fmt.{decimal}
use Rattle.std.specs.Io.KnownBytes.{Appends, Consumes, IsAtEnd}
use Rattle.pg_wire.specs.declared.error.Error.{Error}
use Rattle.pg_wire.specs.declared.error.Error.TheVariants as errors
use Rattle.pg_stream.specs.Links.{LinkPlan, LinkSeen, Rose}
use Rattle.pg_stream.specs.Outside.{SourceSeen, SinkSeen}
use Rattle.pg_stream.specs.Memory.{seen_of, plan_of, untouched}
use Rattle.pg_stream.specs.declared.memory.MemoryLink.{MemoryLink}
use Rattle.pg_script.specs.declared.script.Script.{Script}
use Rattle.pg_script.specs.declared.step.Step.{Step}
use Rattle.pg_script.specs.declared.error.ReadError.TheVariants as reads
use Rattle.pg_script.specs.declared.live.LiveScript.{LiveScript}
use Rattle.pg_script.specs.Grammar.{Says, SaysLive}
use Rattle.pg_report.specs.declared.outcome.Outcome.{Outcome}
use Rattle.pg_report.specs.declared.outcome.Started.{Started}
use Rattle.pg_report.specs.Report.{report, live_report}
use Rattle.pg_report.specs.Summary.{summary}
use Rattle.pg_sample.specs.Counts.{count_of}
use Rattle.pg_sample.specs.Sample.{sample_script}
use Rattle.pg_report.specs.Errors.{error_text}
use Rattle.pg_options.specs.Options.{ConnectOptions, no_settings}
use Rattle.pg_options.specs.FromUrl.{options_of_text}
use Rattle.pg_locks.specs.Locks.{key_line}
use Rattle.pg_auth.specs.Nonce.{nonce_of}
use Rattle.pg_conn.specs.Dials.{DialSeen, IsUncalled, failed_by, one_more}
use Rattle.pg_conn.specs.declared.dial.DialFailed.{DialFailed}
use Rattle.pg_conn.specs.declared.dial.DialFailed.TheVariants as failed
use Rattle.pg_play.specs.Commands.{plain_command, argued_command, lines_of_url}
use Rattle.pg_play.specs.declared.command.Argued.{Argued}
use Rattle.pg_play.specs.declared.command.Argued.TheVariants as argued
use Rattle.pg_play.specs.declared.command.Command.{Command}
use Rattle.pg_play.specs.declared.command.Command.TheVariants as commands
use Rattle.pg_play.specs.declared.ending.TheConstants.{HELP, VERSION}
use Rattle.pg_play.specs.Connecting.{options_of}
use Rattle.pg_play.specs.Starts.{Opening, opening_of, StartEnds}
use Rattle.pg_play.specs.Plays.{Plays}
use Rattle.pg_play.specs.declared.played.Played.{Played}
use Rattle.pg_play.specs.declared.ending.Ending.{Ending}
use Rattle.pg_play.specs.declared.ending.Ending.TheVariants as endings

-- behind a start-up each step has its outcome, and behind a failed one there is none
abbrev pub HasOutcomes : ℕ → Result Started Error → ℕ → Type 0
HasOutcomes steps (Ok _) outcomes = outcomes ≡ steps
HasOutcomes steps (Err _) outcomes = outcomes ≡ 0

-- behind a start-up the headline: each step tells what it queued, heard and showed; and a start-up that fails has its cause
abbrev pub PlaysSteps : Opening → ℕ → List Step → Result Started Error → List Outcome → LinkSeen → LinkSeen → Type 0
PlaysSteps opening polls steps (Ok started) outcomes first last = Plays opening polls first last started steps outcomes
PlaysSteps opening polls steps (Err e) outcomes first last = StartEnds opening polls first last e

-- the link that a script says, of its read and write events and its flags
abbrev pub plan_said : Script → LinkPlan
plan_said script = record { reads = script.events; writes = script.writes; can_upgrade = script.can_upgrade; is_local = script.is_local }

-- the nonce that it says, or 64 times `n`
abbrev pub nonce_said : Script → List ℕ
nonce_said script = unwrap_or script.nonce (replicate 64 110)

-- the polls of start-up that it says, or 1000
abbrev pub polls_said : Script → ℕ
polls_said script = unwrap_or script.start_polls 1000

-- what a script says was played over the link that it says, which was not called before
pub record IsPlay (script : Script) (p : Played MemoryLink) : Type 0 where
  pub outcomes : HasOutcomes (length script.steps) p.start (length p.outcomes)
  pub made : plan_of p.link ≡ plan_said script
  pub plays : PlaysSteps (opening_of (options_of script) (nonce_said script) (plan_said script)) (polls_said script) script.steps p.start p.outcomes (untouched (plan_said script)) (seen_of p.link)

abbrev pub start_status : Result Started Error → ℕ
start_status (Ok _) = 0
start_status (Err errors.OutOfMemory) = 5
start_status (Err _) = 1

abbrev pub EndingIs : {A : Type 0} → Ending A → Played MemoryLink → Type 0
EndingIs (endings.Played q) p = (q ≡ p) × (start_status p.start ≤ 1)
EndingIs endings.NoMemory p = Unit {0}
EndingIs _ p = ⊥

abbrev pub LiveEndingIs : {A : Type 0} → Ending A → Played A → Type 0
LiveEndingIs (endings.Live q) p = (q ≡ p) × (start_status p.start ≤ 1)
LiveEndingIs endings.NoMemory p = Unit {0}
LiveEndingIs _ p = ⊥

abbrev pub SampleEndingIs : {A : Type 0} → Ending A → Played MemoryLink → Type 0
SampleEndingIs (endings.Sampled q) p = (q ≡ p) × (start_status p.start ≤ 1)
SampleEndingIs endings.NoMemory p = Unit {0}
SampleEndingIs _ p = ⊥

-- the source was read to its end, and this was played from its text
abbrev pub PlaysText : SourceSeen → SourceSeen → Played MemoryLink → Type 0
PlaysText a b p = (text : List ℕ) × (script : Script) × Consumes a.left b.left text × IsAtEnd b.left × Says (Ok script) text × IsPlay script p

-- the source's text has this first bad line, or 0 where it is too long
abbrev pub BadText : SourceSeen → SourceSeen → ℕ → Type 0
BadText a b n = (text : List ℕ) × Consumes a.left b.left text × Says (Err (reads.BadLine n)) text × (n ≢ 0 → IsAtEnd b.left)

abbrev pub PlayedOrStarved : {A : Type 0} → Script → Ending A → Type 0
PlayedOrStarved script (endings.Played p) = IsPlay script p × (start_status p.start ≤ 1)
PlayedOrStarved script endings.NoMemory = Unit {0}
PlayedOrStarved script _ = ⊥

-- what the source made of it
abbrev pub ScriptIs : {A : Type 0} → SourceSeen → SourceSeen → Ending A → Type 0
ScriptIs a b (endings.Played p) = PlaysText a b p × (start_status p.start ≤ 1)
ScriptIs a b (endings.BadScript n) = BadText a b n
ScriptIs a b endings.ReadFailed = Rose a.faults b.faults
ScriptIs a b endings.NoMemory = Unit {0}
ScriptIs a b _ = ⊥

-- what one word made of it
abbrev pub WordIs : {A : Type 0} → Command → SourceSeen → SourceSeen → Ending A → Type 0
WordIs commands.Script a b e = ScriptIs a b e
WordIs commands.Help a b e = (e ≡ endings.Help) × (b ≡ a)
WordIs commands.Version a b e = (e ≡ endings.Version) × (b ≡ a)
WordIs commands.Unknown a b e = (e ≡ endings.BadWords) × (b ≡ a)

abbrev pub SampledOrStarved : {A : Type 0} → Script → Ending A → Type 0
SampledOrStarved script (endings.Sampled p) = IsPlay script p × (start_status p.start ≤ 1)
SampledOrStarved script endings.NoMemory = Unit {0}
SampledOrStarved script _ = ⊥

-- the script of so many steps was played, where the word says a number of them
abbrev pub SampleIs : {A : Type 0} → Option ℕ → Ending A → Type 0
SampleIs (Some count) e = SampledOrStarved (sample_script count) e
SampleIs None e = e ≡ endings.BadWords

-- what a URL made of it
abbrev pub OptionsIs : {A : Type 0} → List ℕ → Ending A → Type 0
OptionsIs url (endings.Shown text) = lines_of_url url ≡ Ok (string_bytes text)
OptionsIs url (endings.Refused e) = lines_of_url url ≡ Err e
OptionsIs url endings.NoMemory = Unit {0}
OptionsIs url _ = ⊥

-- the line that tells the key of a text
abbrev pub KeyIs : {A : Type 0} → List ℕ → Ending A → Type 0
KeyIs text (endings.Shown line) = string_bytes line ≡ key_line text
KeyIs text endings.NoMemory = Unit {0}
KeyIs text _ = ⊥

-- ---- a play over a link that is dialled

-- what a dial has handed out: a link for these options, and behind it these words
abbrev pub Handing : Type 0 → Type 1
Handing A = ConnectOptions → A → List ℕ → Type 0

-- what a script says was played over the link that was dialled for these options, with a nonce of the 128 words that were drawn behind it
pub record IsLivePlay {A : Type 0} (seen : A → LinkSeen) (hands : Handing A) (o : ConnectOptions) (script : LiveScript) (p : Played A) : Type 0 where
  -- the link as it was dialled
  pub link : A
  pub words : List ℕ
  pub handed : hands o link words
  pub drawn : length words ≡ 128
  pub uncalled : IsUncalled (seen link)
  pub outcomes : HasOutcomes (length script.steps) p.start (length p.outcomes)
  pub plays : PlaysSteps (opening_of o (nonce_of words) (seen link).plan) (unwrap_or script.start_polls 1000) script.steps p.start p.outcomes (seen link) (seen p.link)

abbrev pub IsUndialed : {A : Type 0} → DialFailed → Ending A → Type 0
IsUndialed failed.Fault e = e ≡ endings.DialFailed
IsUndialed failed.OutOfMemory e = e ≡ endings.NoMemory

-- one link was handed out, and no call failed
abbrev pub DialedOnce : DialSeen → DialSeen → Type 0
DialedOnce f g = (g.links ≡ one_more f.links) × (g.faults ≡ f.faults)

-- no link was handed out and no word drawn, or a word failed behind one link
abbrev pub FailedToDial : DialSeen → DialSeen → Type 0
FailedToDial f g = (g ≡ failed_by f failed.Fault) ⊎ ((g.links ≡ one_more f.links) × (g.faults ≡ one_more f.faults))

-- the dial gave a link and words, or failed
abbrev pub DialedIs : {A : Type 0} → (A → LinkSeen) → Handing A → ConnectOptions → LiveScript → DialSeen → DialSeen → Ending A → Type 0
DialedIs seen hands o script f g (endings.Live p) = IsLivePlay seen hands o script p × (start_status p.start ≤ 1) × DialedOnce f g
DialedIs seen hands o script f g endings.DialFailed = FailedToDial f g
DialedIs seen hands o script f g endings.NoMemory = Unit {0}
DialedIs seen hands o script f g _ = ⊥

abbrev pub LivePlaysText : {A : Type 0} → (A → LinkSeen) → Handing A → ConnectOptions → SourceSeen → SourceSeen → Played A → Type 0
LivePlaysText seen hands o a b p = (text : List ℕ) × (script : LiveScript) × Consumes a.left b.left text × IsAtEnd b.left × SaysLive (Ok script) text × IsLivePlay seen hands o script p

abbrev pub BadLiveText : SourceSeen → SourceSeen → ℕ → Type 0
BadLiveText a b n = (text : List ℕ) × Consumes a.left b.left text × SaysLive (Err (reads.BadLine n)) text × (n ≢ 0 → IsAtEnd b.left)

-- what the source and the dial made of options
abbrev pub LiveIs : {A : Type 0} → (A → LinkSeen) → Handing A → ConnectOptions → SourceSeen → SourceSeen → DialSeen → DialSeen → Ending A → Type 0
LiveIs seen hands o a b f g (endings.Live p) = LivePlaysText seen hands o a b p × (start_status p.start ≤ 1) × DialedOnce f g
LiveIs seen hands o a b f g (endings.BadScript n) = BadLiveText a b n × (g ≡ f)
LiveIs seen hands o a b f g endings.ReadFailed = Rose a.faults b.faults × (g ≡ f)
LiveIs seen hands o a b f g endings.DialFailed = FailedToDial f g
LiveIs seen hands o a b f g endings.NoMemory = Unit {0}
LiveIs seen hands o a b f g _ = ⊥

-- the options that a URL alone says, or why it says none
abbrev pub LiveUrlIs : {A : Type 0} → (A → LinkSeen) → Handing A → Result ConnectOptions Error → SourceSeen → SourceSeen → DialSeen → DialSeen → Ending A → Type 0
LiveUrlIs seen hands (Ok o) a b f g e = LiveIs seen hands o a b f g e ⊎ (e ≡ endings.NoMemory)
LiveUrlIs seen hands (Err error) a b f g e = ((e ≡ endings.Refused error) ⊎ (e ≡ endings.NoMemory)) × (b ≡ a) × (g ≡ f)

-- what a word and its argument made of it
abbrev pub ArgumentIs : {A : Type 0} → (A → LinkSeen) → Handing A → Argued → List ℕ → SourceSeen → SourceSeen → DialSeen → DialSeen → Ending A → Type 0
ArgumentIs seen hands argued.Options argument a b f g e = OptionsIs argument e × (b ≡ a) × (g ≡ f)
ArgumentIs seen hands argued.Live argument a b f g e = LiveUrlIs seen hands (options_of_text no_settings argument) a b f g e
ArgumentIs seen hands argued.Sample argument a b f g e = SampleIs (count_of argument) e × (b ≡ a) × (g ≡ f)
ArgumentIs seen hands argued.Key argument a b f g e = KeyIs argument e × (b ≡ a) × (g ≡ f)
ArgumentIs seen hands argued.Unknown argument a b f g e = (e ≡ endings.BadWords) × (b ≡ a) × (g ≡ f)

-- what the words, the source and the dial made of it
abbrev pub RunIs : {A : Type 0} → (A → LinkSeen) → Handing A → List (String Global) → SourceSeen → SourceSeen → DialSeen → DialSeen → Ending A → Type 0
RunIs seen hands (word ∷ []) a b f g e = WordIs (plain_command (string_bytes word)) a b e × (g ≡ f)
RunIs seen hands (word ∷ argument ∷ []) a b f g e = ArgumentIs seen hands (argued_command (string_bytes word)) (string_bytes argument) a b f g e
RunIs seen hands _ a b f g e = (e ≡ endings.BadWords) × (b ≡ a) × (g ≡ f)

abbrev pub refused_text : Error → List ℕ
refused_text error = codes "error " ++ error_text error ++ 10 ∷ []

abbrev pub bad_script_text : ℕ → List ℕ
bad_script_text n = codes "bad script: line " ++ decimal n ++ 10 ∷ []

-- the report of what was played, with all bytes that the link took
abbrev pub Reports : Played MemoryLink → List ℕ → Type 0
Reports p text = (sent : List ℕ) × ((seen_of p.link).taken ≡ Some sent) × (text ≡ report p.start p.outcomes sent)

-- the line that sums up what was played, with the number of bytes that the link took
abbrev pub SumsUp : Played MemoryLink → List ℕ → Type 0
SumsUp p text = (sent : List ℕ) × ((seen_of p.link).taken ≡ Some sent) × (text ≡ summary p.start p.outcomes sent)

abbrev pub TellsEnding : {A : Type 0} → Ending A → List ℕ → Type 0
TellsEnding (endings.Played p) text = Reports p text
TellsEnding (endings.Live p) text = text ≡ live_report p.start p.outcomes
TellsEnding (endings.Sampled p) text = SumsUp p text
TellsEnding (endings.Shown lines) text = text ≡ string_bytes lines
TellsEnding endings.Help text = text ≡ HELP.now
TellsEnding endings.Version text = text ≡ VERSION.now
TellsEnding endings.BadWords text = text ≡ codes "bad words\n"
TellsEnding (endings.Refused e) text = text ≡ refused_text e
TellsEnding (endings.BadScript n) text = text ≡ bad_script_text n
TellsEnding endings.ReadFailed text = text ≡ codes "read failed\n"
TellsEnding endings.DialFailed text = text ≡ codes "dial failed\n"
TellsEnding endings.NoMemory text = text ≡ codes "out of memory\n"

abbrev pub status_of : {A : Type 0} → Ending A → ℕ
status_of (endings.Played p) = start_status p.start
status_of (endings.Live p) = start_status p.start
status_of (endings.Sampled p) = start_status p.start
status_of (endings.Shown lines) = 0
status_of endings.Help = 0
status_of endings.Version = 0
status_of endings.BadWords = 2
status_of (endings.Refused e) = 2
status_of (endings.BadScript n) = 2
status_of endings.ReadFailed = 3
status_of endings.NoMemory = 5
status_of endings.DialFailed = 6

abbrev pub played_of : {A : Type 0} → Ending A → Option (Played MemoryLink)
played_of (endings.Played p) = Some p
played_of (endings.Sampled p) = Some p
played_of _ = None

abbrev pub live_of : {A : Type 0} → Ending A → Option (Played A)
live_of (endings.Live p) = Some p
live_of _ = None

abbrev pub WritesAll : SinkSeen → SinkSeen → List ℕ → Type 0
WritesAll x y text = Appends x.taken y.taken text × (y.faults ≡ x.faults)

-- a front of a text was written, and then the sink failed
abbrev pub WritesFront : SinkSeen → SinkSeen → List ℕ → Type 0
WritesFront x y text = (n : ℕ) × Appends x.taken y.taken (take n text) × Rose x.faults y.faults

abbrev pub status_after : Bool → ℕ → ℕ
status_after true status = status
status_after false status = 4

-- a text was written whole, or the sink failed within it
abbrev pub Writes : ℕ → List ℕ → SinkSeen → SinkSeen → ℕ → Type 0
Writes own text x y status = (WritesAll x y text × (status ≡ own)) ⊎ (WritesFront x y text × (status ≡ 4))

-- the ending's text, or that memory was refused for it
abbrev pub WritesEnding : {A : Type 0} → Ending A → SinkSeen → SinkSeen → ℕ → Type 0
WritesEnding e x y status =
    ((text : List ℕ) × TellsEnding e text × Writes (status_of e) text x y status) ⊎
    Writes 5 (codes "out of memory\n") x y status

-- what the words asked was run on what was read, and is told
pub record TopIs {A : Type 0} (seen : A → LinkSeen) (hands : Handing A) (words : List (String Global)) (a b : SourceSeen) (x y : SinkSeen) (f g : DialSeen) (status : ℕ) (played : Option (Played MemoryLink)) (live : Option (Played A)) : Type 0 where
  pub ending : Ending A
  pub runs : RunIs seen hands words a b f g ending
  pub shown : played ≡ played_of ending
  pub shown_live : live ≡ live_of ending
  pub written : WritesEnding ending x y status
