use Rattle.std.proofs.Common.{◌≡◌, ℕ, ◌<◌, true, get_or}
use Rattle.pg_options.specs.UrlTexts.{is_ipv6_byte}
use Rattle.pg_options.proofs.url_text.has_ipv6_bytes.Given as goal

abbrev pub invariant-loop-byte : goal.invariant-loop-byte
invariant-loop-byte l = (k : ℕ) → k < l.byte-index → is_ipv6_byte (get_or l.text k 0) ≡ true
