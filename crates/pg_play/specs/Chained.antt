-- Steps that are calls of a connection one behind another: which calls they are, and what a step tells of them.
use Rattle.std.specs.Prelude.{◌≡◌, List, [], ◌∷◌, ◌++◌}
use Rattle.pg_locks.specs.Locks.{try_lock_statement, unlock_statement}
use Rattle.pg_report.specs.declared.outcome.Outcome.{Outcome}
use Rattle.pg_script.specs.declared.step.Call.{Call}
use Rattle.pg_script.specs.declared.step.Call.TheVariants as calls
use Rattle.pg_script.specs.declared.step.Chain.TheVariants as chains
use Rattle.pg_script.specs.declared.step.Step.{Step}
use Rattle.pg_play.specs.Chains.{IsCopied, IsDescribed}
use Rattle.pg_play.specs.Locks.{Guards, GivesUp, IsAsked, IsLocked, guards_behind}

-- The calls of a step, what came of each, and the guards before and behind it. What only an act of a chain is asks nothing as a step.
abbrev pub IsChainedAs : Call → Guards → Guards → Step → Outcome → List Step → List Outcome → Type 0
IsChainedAs (calls.Chain (chains.Describe sql)) guards after step out parts told = (after ≡ guards) × IsDescribed step sql out parts told
IsChainedAs (calls.Chain (chains.CopyIn copying)) guards after step out parts told = (after ≡ guards) × IsCopied step copying out parts told
IsChainedAs (calls.Chain (chains.Lock key)) guards after step out parts told = (after ≡ guards_behind key guards out.end) × IsLocked step key out parts told
IsChainedAs (calls.Chain (chains.TryLock key)) guards after step out parts told = (after ≡ guards_behind key guards out.end) × IsAsked step (try_lock_statement key) key out parts told
IsChainedAs (calls.Chain (chains.Unlock key)) guards after step out parts told = (after ≡ guards) × IsAsked step (unlock_statement key) key out parts told
IsChainedAs (calls.Chain (chains.DropLock key)) guards after step out parts told = GivesUp step key guards after out parts told
IsChainedAs (calls.Release text) guards after step out parts told = (after ≡ guards) × (parts ≡ record step { call = calls.Flush } ∷ []) × (told ≡ out ∷ [])
IsChainedAs call guards after step out parts told = (after ≡ guards) × (parts ≡ step ∷ []) × (told ≡ out ∷ [])

abbrev pub IsChained : Guards → Guards → Step → Outcome → List Step → List Outcome → Type 0
IsChained guards after step out parts told = IsChainedAs step.call guards after step out parts told

-- those of all steps, in order, and the guards that there are at last
abbrev pub AreChained : Guards → List Step → List Outcome → List Step → List Outcome → Guards → Type 0
AreChained guards [] [] parts told last = (parts ≡ []) × (told ≡ []) × (last ≡ guards)
AreChained guards (step ∷ steps) (out ∷ outs) parts told last =
    (own later : List Step) × (ones others : List Outcome) × (after : Guards) × IsChained guards after step out own ones × AreChained after steps outs later others last × (parts ≡ own ++ later) × (told ≡ ones ++ others)
AreChained guards [] (out ∷ outs) parts told last = ⊥
AreChained guards (step ∷ steps) [] parts told last = ⊥
