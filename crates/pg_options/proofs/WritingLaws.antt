-- The certificates of a URL's query, one behind the other.
use Rattle.std.proofs.Common.{◌≡◌, Option, Result, refl, subst, codes}
use Rattle.url.specs.Parts.{Parts}
use Rattle.pg_wire.specs.declared.error.Error.{Error}
use Rattle.pg_options.specs.declared.certificate.CertificateInput.{CertificateInput}
use Rattle.pg_options.specs.Answering.{Makes}
use Rattle.pg_options.specs.Options.{ConnectOptions}
use Rattle.pg_options.specs.ToUrl.{with_certificate, with_certificates}

pub three_certificates : (o : ConnectOptions) (url root client : Parts) (r : Result Parts Error) (a b c : Option CertificateInput)
    → a ≡ o.ssl_root_cert → b ≡ o.ssl_client_cert → c ≡ o.ssl_client_key
    → root ≡ with_certificate url (codes "sslrootcert") a → client ≡ with_certificate root (codes "sslcert") b
    → Makes r (with_certificate client (codes "sslkey") c) → Makes r (with_certificates url o)
three_certificates o url root client r a b c e f g h k done =
    let same : with_certificate client (codes "sslkey") c ≡ with_certificates url o = rw (k, h, e, f, g) refl in
    subst (λ u. Makes r u) same done
