-- A certificate or key in a setting: the PEM text itself (RFC 7468), or the path of a file.
use Rattle.std.specs.Prelude.{ℕ, Bool, ◌&&◌, ◌==◌, List, codes, if◌then◌else◌}
use Rattle.std.specs.List.{starts_with, ends_with}
use Rattle.std.specs.Str.{trim}
use Rattle.std.specs.Str.Lossy.{utf8_lossy}
use Rattle.pg_options.specs.declared.certificate.CertificateInput.{CertificateInput}
use Rattle.pg_options.specs.declared.certificate.CertificateInput.TheVariants.{File, Inline}

-- without the white space round it, the text stands between the two lines of a PEM certificate
unfoldable pub is_pem : List ℕ → Bool
is_pem text =
    starts_with ◌==◌ (trim text) (codes "-----BEGIN CERTIFICATE-----")
    && ends_with ◌==◌ (trim text) (codes "-----END CERTIFICATE-----")

abbrev pub certificate_from : List ℕ → CertificateInput
certificate_from text = if is_pem text then Inline text else File text

-- as a URL has it: a path as it is, and bytes as the text that they spell, where U+FFFD stands for what is no UTF-8
abbrev pub certificate_text : CertificateInput → List ℕ
certificate_text (File path) = path
certificate_text (Inline bytes) = utf8_lossy bytes
