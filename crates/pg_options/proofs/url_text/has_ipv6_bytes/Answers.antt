use Rattle.std.proofs.Common.{sym, arith}
use Rattle.pg_options.specs.UrlTexts.{is_ipv6_byte}
use Rattle.pg_options.proofs.UrlTextLaws.{all_pass}
use Rattle.pg_options.proofs.url_text.has_ipv6_bytes.Goals as goal

pub returns : goal.returns
returns c = sym (all_pass is_ipv6_byte c.args.text.now (λ k l. c.loop-byte.invariant k (omega (arith, c.as_bytes-byte-items.ensures.len))))
