-- Whether TLS is asked for (PostgreSQL manual, "SSL Support", "Protection Provided in Different Modes").
use Rattle.std.specs.Prelude.{Bool, true, false, if◌then◌else◌, Result, Ok, Err}
use Rattle.pg_options.specs.declared.ssl_mode.PgSslMode.{PgSslMode}
use Rattle.pg_options.specs.declared.ssl_mode.PgSslMode.TheVariants as modes
use Rattle.pg_stream.specs.declared.link.TlsWish.{TlsWish}
use Rattle.pg_wire.specs.declared.error.Error.{Error}
use Rattle.pg_wire.specs.declared.error.Error.TheVariants as errors
use Rattle.pg_wire.specs.declared.error.TlsCause.TheVariants.{CannotUpgrade}
use Rattle.pg_auth.specs.declared.tls.TlsPlan.{TlsPlan}
use Rattle.pg_auth.specs.declared.tls.TlsPlan.TheVariants.{Plain, Ask}

-- sslmode=require and the modes after it: no connection without TLS
abbrev pub is_required : PgSslMode → Bool
is_required modes.Disable = false
is_required modes.Allow = false
is_required modes.Prefer = false
is_required modes.Require = true
is_required modes.VerifyCa = true
is_required modes.VerifyFull = true

abbrev pub asks : PgSslMode → Bool
asks modes.Disable = false
asks modes.Allow = false
asks modes.Prefer = true
asks modes.Require = true
asks modes.VerifyCa = true
asks modes.VerifyFull = true

-- the certificate is verified by verify-ca and verify-full, the host's name in it by verify-full
abbrev pub wish_of : PgSslMode → TlsWish
wish_of modes.Disable = record { verify_certificate = false; verify_host = false }
wish_of modes.Allow = record { verify_certificate = false; verify_host = false }
wish_of modes.Prefer = record { verify_certificate = false; verify_host = false }
wish_of modes.Require = record { verify_certificate = false; verify_host = false }
wish_of modes.VerifyCa = record { verify_certificate = true; verify_host = false }
wish_of modes.VerifyFull = record { verify_certificate = true; verify_host = true }

-- a local link is plain, whatever the mode
abbrev pub tls_plan : PgSslMode → Bool → Bool → Result TlsPlan Error
tls_plan mode can_upgrade true = Ok Plain
tls_plan mode true false = if asks mode then Ok (Ask (is_required mode) (wish_of mode)) else Ok Plain
tls_plan mode false false = if is_required mode then Err (errors.Tls CannotUpgrade) else Ok Plain
