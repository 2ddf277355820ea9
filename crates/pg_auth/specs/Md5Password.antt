-- The answer to AuthenticationMD5Password (PostgreSQL manual, "Message Flow", "Start-up").
use Rattle.std.specs.Prelude.{ℕ, List, ◌++◌, codes}
use Rattle.md5.specs.Md5.{md5}
use Rattle.hex.specs.Hex.{encode_lower}

-- md5 as the server's SQL function has it: in lower-case hex digits
abbrev pub md5_hex : List ℕ → List ℕ
md5_hex text = encode_lower (md5 text)

-- concat('md5', md5(concat(md5(concat(password, username)), random-salt)))
unfoldable pub md5_password : List ℕ → List ℕ → List ℕ → List ℕ
md5_password user password salt = codes "md5" ++ md5_hex (md5_hex (password ++ user) ++ salt)
