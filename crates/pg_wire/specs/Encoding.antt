-- What an encoder answers, and why it appends nothing.
use Rattle.std.specs.Prelude.{◌≡◌, ℕ, ◌<◌, ◌≤◌}
use Rattle.pg_wire.specs.declared.error.Error.{Error}
use Rattle.pg_wire.specs.declared.error.Error.TheVariants as errors
use Rattle.pg_wire.specs.declared.error.ProtocolFault.TheVariants as faults
use Rattle.pg_wire.specs.declared.error.CallerFault.TheVariants as callers

-- the greatest length of a body
abbrev pub body_max : ℕ
body_max = 2147483643

-- No cause to refuse a message of so many counted parts and with a body of this length. AreTexts says that no text in it holds a zero byte.
abbrev pub Allows : ℕ → Type 0 → ℕ → Type 0
Allows count AreTexts size = (count ≤ 65535) × AreTexts × (size ≤ body_max)

-- Why a message of so many counted parts and with a body of this length is refused, the first cause that holds.
abbrev pub Refuses : ℕ → Type 0 → ℕ → Error → Type 0
Refuses count AreTexts size (errors.Protocol (faults.Caller (callers.TooMany n))) = (n ≡ count) × (65535 < count)
Refuses count AreTexts size (errors.Protocol (faults.Caller callers.Nul)) = (count ≤ 65535) × (AreTexts → ⊥)
Refuses count AreTexts size (errors.Protocol (faults.Caller (callers.TooLong n))) = (count ≤ 65535) × AreTexts × (n ≡ size) × (body_max < size)
Refuses count AreTexts size errors.OutOfMemory = Unit {0}
Refuses count AreTexts size _ = ⊥
