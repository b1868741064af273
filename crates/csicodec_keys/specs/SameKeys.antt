-- Which keys are the same.
use denote.Enum.Declared.{tag_of}
use Rattle.std.specs.Prelude.{ℕ, ◌==◌, ◌&&◌, Bool}
use Rattle.csicodec_keys.specs.{contracts.code.KeyCode.the_type, declared.code.KeyCode.KeyCode}

-- which kind of key it is: the place of its variant in KeyCode, from 0 on
abbrev pub code_tag : KeyCode → ℕ
code_tag k = tag_of the_type k

-- the character of a key that types one, the number of a function key, and 0
abbrev pub code_value : KeyCode → ℕ
code_value (KeyCode.Char c) = c
code_value (KeyCode.F n) = n
code_value _ = 0

-- the kind and the value are the same; then it is one key (`same-code` of the proofs)
abbrev pub same_code : KeyCode → KeyCode → Bool
same_code a b = (code_tag a == code_tag b) && (code_value a == code_value b)
