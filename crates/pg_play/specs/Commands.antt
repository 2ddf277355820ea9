-- What the words of a command line ask for.
use Rattle.std.specs.Prelude.{ℕ, List, Result, Ok, bytes_eq, codes, if◌then◌else◌}
use Rattle.url.specs.Parts.{serialize}
use Rattle.pg_wire.specs.declared.error.Error.{Error}
use Rattle.pg_options.specs.Options.{ConnectOptions, no_settings}
use Rattle.pg_options.specs.Answering.{and_then}
use Rattle.pg_options.specs.FromUrl.{options_of_text}
use Rattle.pg_options.specs.ToUrl.{url_of_options}
use Rattle.pg_report.specs.Options.{option_lines}
use Rattle.pg_play.specs.declared.command.Command.{Command}
use Rattle.pg_play.specs.declared.command.Command.TheVariants as commands
use Rattle.pg_play.specs.declared.command.Argued.{Argued}
use Rattle.pg_play.specs.declared.command.Argued.TheVariants as argued

abbrev pub plain_command : List ℕ → Command
plain_command word =
    if bytes_eq word (codes "script") then commands.Script
    else if bytes_eq word (codes "--help") then commands.Help
    else if bytes_eq word (codes "--version") then commands.Version
    else commands.Unknown

abbrev pub argued_command : List ℕ → Argued
argued_command word =
    if bytes_eq word (codes "options") then argued.Options
    else if bytes_eq word (codes "live") then argued.Live
    else if bytes_eq word (codes "sample") then argued.Sample
    else if bytes_eq word (codes "key") then argued.Key
    else argued.Unknown

-- the lines of options with their URL, or why they have none
abbrev pub lines_of_options : ConnectOptions → Result (List ℕ) Error
lines_of_options o = and_then (url_of_options o) (λ built. Ok (option_lines o (serialize built)))

-- the same of the options that a URL alone says
abbrev pub lines_of_url : List ℕ → Result (List ℕ) Error
lines_of_url url = and_then (options_of_text no_settings url) lines_of_options
