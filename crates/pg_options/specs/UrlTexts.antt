-- Texts in a URL: what they stand for, and which of them are addresses.
use Rattle.std.specs.Prelude.{ℕ, Bool, false, ◌&&◌, ◌||◌, ◌==◌, nat_eq, ◌-◌, List, [], ◌∷◌, ◌++◌, length, take, drop, codes, Option, Some, None, is_some, option_and_then, Result, Ok, Err, is_ok, if◌then◌else◌}
use Rattle.std.specs.List.{list_all, starts_with, ends_with}
use Rattle.std.specs.Char.{is_digit}
use Rattle.std.specs.Str.{is_utf8}
use Rattle.std.specs.Net.Reader.{read_ipv4, whole_value}
use Rattle.percent_encoding.specs.Percent.{percent_decode}
use Rattle.url.specs.Parts.{Parts}
use Rattle.url.specs.Parser.{parse_url}
use Rattle.url.specs.declared.error.ParseError.{ParseError}
use Rattle.pg_wire.specs.declared.error.Error.{Error}
use Rattle.pg_wire.specs.declared.error.Error.TheVariants.{Configuration}
use Rattle.pg_wire.specs.declared.error.ConfigPart.TheVariants.{Url, Utf8}

-- what the URL Standard's parser made of a text, where its own reasons are one refusal
abbrev pub url_or_refused : Result Parts ParseError → Result Parts Error
url_or_refused (Ok url) = Ok url
url_or_refused (Err e) = Err (Configuration Url 0)

-- the URL of an absolute text (URL Standard, section 4.4)
abbrev pub url_from : List ℕ → Result Parts Error
url_from text = url_or_refused (parse_url None text)

-- the text that a part of a URL stands for (URL Standard, section 1.3), which must be UTF-8
unfoldable pub decoded_text : List ℕ → Result (List ℕ) Error
decoded_text part =
    if is_utf8 (percent_decode part) then Ok (percent_decode part) else Err (Configuration Utf8 0)

-- the text without the slashes at its front
abbrev pub without_slashes : List ℕ → List ℕ
without_slashes [] = []
without_slashes (b ∷ bytes) = if b == 47 then without_slashes bytes else b ∷ bytes

-- the bytes begin with a slash
abbrev pub begins_path : List ℕ → Bool
begins_path [] = false
begins_path (b ∷ bytes) = b == 47

-- ---- addresses

-- four numbers up to 255 without leading zeros, joined by dots
unfoldable pub is_ipv4 : List ℕ → Bool
is_ipv4 text = is_some (whole_value (read_ipv4 text))

-- a hexadecimal digit, a colon or a dot
abbrev pub is_ipv6_byte : ℕ → Bool
is_ipv6_byte b = is_digit b 16 || b == 58 || b == 46

-- the URL with this text as its bracketed host
unfoldable pub bracketed_url : List ℕ → List ℕ
bracketed_url text = codes "postgres://[" ++ text ++ codes "]/"

-- what the URL Standard reads between brackets (section 3.5, the IPv6 parser)
unfoldable pub is_ipv6 : List ℕ → Bool
is_ipv6 text = list_all is_ipv6_byte text && is_ok (url_from (bracketed_url text))

abbrev pub is_host_addr : List ℕ → Bool
is_host_addr text = is_ipv4 text || is_ipv6 text

-- ---- the name in `options[name]`

-- what stands behind the front
unfoldable pub behind_front : List ℕ → List ℕ → Option (List ℕ)
behind_front front text = if starts_with nat_eq text front then Some (drop (length front) text) else None

-- what stands before the back
unfoldable pub before_back : List ℕ → List ℕ → Option (List ℕ)
before_back back text =
    if ends_with nat_eq text back then Some (take (length text - length back) text) else None

abbrev pub bracketed : List ℕ → Option (List ℕ)
bracketed key = option_and_then (before_back (codes "]")) (behind_front (codes "options[") key)
