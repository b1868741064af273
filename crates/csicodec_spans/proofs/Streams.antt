-- What the machine tells of some streams, computed from its definition.
use Rattle.std.proofs.Common.{◌≡◌, ℕ, List, [], ◌∷◌, ◌++◌, map, refl}
use Rattle.std.specs.Prelude.{codes}
use Rattle.csicodec_spans.specs.Machine.{Event, Print, Execute, CsiDispatch, EscDispatch, Hook, Put, Unhook, Ignore, Open, Escape, CsiParam, tell, walk, told}
use Rattle.csicodec_spans.specs.declared.table.Mode.{Mode}

abbrev prints : List ℕ → List Event
prints bytes = map Print bytes

abbrev puts : List ℕ → List Event
puts bytes = map (λ (b : ℕ). Put (b ∷ [])) bytes

abbrev ignores : List ℕ → List Event
ignores bytes = map (λ (b : ℕ). Ignore (b ∷ [])) bytes

abbrev esc : List ℕ → List ℕ
esc bytes = 27 ∷ bytes

-- ---- text

-- BEL and LF are executed, DEL and a character of two bytes are printed, and so is U+009B, which is CSI elsewhere
text : told 64 (codes "a" ++ (7 ∷ 10 ∷ 127 ∷ 195 ∷ 169 ∷ 194 ∷ 155 ∷ [])) ≡ Print 97 ∷ Execute 7 ∷ Execute 10 ∷ prints (127 ∷ 195 ∷ 169 ∷ 194 ∷ 155 ∷ [])
text = refl

-- ---- sequences

sequence : told 64 (codes "a" ++ (esc (codes "[1;31m") ++ codes "b")) ≡ Print 97 ∷ CsiDispatch (esc (codes "[1;31m")) ∷ Print 98 ∷ []
sequence = refl

-- private parameters, an intermediate byte, and neither
sequences : told 64 (esc (codes "[?25h") ++ (esc (codes "[2 q") ++ esc (codes "[m"))) ≡ CsiDispatch (esc (codes "[?25h")) ∷ CsiDispatch (esc (codes "[2 q")) ∷ CsiDispatch (esc (codes "[m")) ∷ []
sequences = refl

escapes : told 64 (esc (codes "7") ++ (esc (codes "(B") ++ esc (codes "\\"))) ≡ EscDispatch (esc (codes "7")) ∷ EscDispatch (esc (codes "(B")) ∷ EscDispatch (esc (codes "\\")) ∷ []
escapes = refl

-- ---- control strings

osc_by_bel : told 64 (esc (codes "]0;t") ++ 7 ∷ codes "a") ≡ Hook 93 ∷ puts (codes "0;t") ++ Unhook (7 ∷ []) ∷ Print 97 ∷ []
osc_by_bel = refl

osc_by_st : told 64 (esc (codes "]0;t") ++ (esc (codes "\\") ++ codes "a")) ≡ Hook 93 ∷ puts (codes "0;t") ++ Unhook (esc (codes "\\")) ∷ Print 97 ∷ []
osc_by_st = refl

-- in a DCS BEL is put, and ESC ESC quotes an ESC
dcs : told 64 (esc (codes "Pt;") ++ (7 ∷ 27 ∷ 27 ∷ codes "[m" ++ esc (codes "\\")))
    ≡ Hook 80 ∷ puts (codes "t;") ++ (Put (7 ∷ []) ∷ Put (27 ∷ 27 ∷ []) ∷ puts (codes "[m") ++ (Unhook (esc (codes "\\")) ∷ []))
dcs = refl

apc : told 64 (esc (codes "_G") ++ (esc (codes "\\") ++ esc (codes "\\"))) ≡ Hook 95 ∷ puts (codes "G") ++ Unhook (esc (codes "\\")) ∷ EscDispatch (esc (codes "\\")) ∷ []
apc = refl

-- CAN cancels a string, and so does another control
cancelled : told 64 (esc (codes "^p") ++ 24 ∷ codes "a") ≡ Hook 94 ∷ puts (codes "p") ++ Execute 24 ∷ Print 97 ∷ []
cancelled = refl

begun_anew : told 64 (esc (codes "]0") ++ esc (codes "[m")) ≡ Hook 93 ∷ puts (codes "0") ++ CsiDispatch (esc (codes "[m")) ∷ []
begun_anew = refl

-- ---- what goes wrong

-- CAN, a control, ESC and a byte of a character in a control sequence
csi_cancelled : told 64 (esc (codes "[1") ++ 24 ∷ codes "m") ≡ Ignore (esc (codes "[1")) ∷ Execute 24 ∷ Print 109 ∷ []
csi_cancelled = refl

csi_control : told 64 (esc (codes "[3") ++ 1 ∷ codes "1me") ≡ Ignore (esc (codes "[3")) ∷ ignores (1 ∷ codes "1m") ++ Print 101 ∷ []
csi_control = refl

csi_anew : told 64 (esc (codes "[1") ++ esc (codes "[m")) ≡ Ignore (esc (codes "[1")) ∷ CsiDispatch (esc (codes "[m")) ∷ []
csi_anew = refl

csi_character : told 64 (esc (codes "[1") ++ 195 ∷ 169 ∷ codes "m") ≡ Ignore (esc (codes "[1")) ∷ prints (195 ∷ 169 ∷ codes "m")
csi_character = refl

-- a second ESC, a second intermediate byte, and none but a control behind ESC
esc_esc : told 64 (27 ∷ esc (codes "[m")) ≡ Ignore (27 ∷ []) ∷ CsiDispatch (esc (codes "[m")) ∷ []
esc_esc = refl

esc_two : told 64 (esc (codes "$(Ba")) ≡ Ignore (esc (codes "$")) ∷ ignores (codes "(B") ++ Print 97 ∷ []
esc_two = refl

esc_control : told 64 (27 ∷ 10 ∷ codes "7a") ≡ Ignore (27 ∷ []) ∷ ignores (10 ∷ codes "7") ++ Print 97 ∷ []
esc_control = refl

-- as many bytes as a sequence may have, and one more
just_fits : told 4 (esc (codes "[1m")) ≡ CsiDispatch (esc (codes "[1m")) ∷ []
just_fits = refl

too_long : told 4 (esc (codes "[1;2m")) ≡ Ignore (esc (codes "[1;")) ∷ ignores (codes "2m")
too_long = refl

one_byte : told 1 (esc (codes "[m") ++ esc (codes "7")) ≡ ignores (esc (codes "[")) ++ Print 109 ∷ EscDispatch (esc (codes "7")) ∷ []
one_byte = refl

-- the largest number, and one more
largest : told 64 (esc (codes "[9223372036854775807m")) ≡ CsiDispatch (esc (codes "[9223372036854775807m")) ∷ []
largest = refl

too_large : told 64 (esc (codes "[9223372036854775808m")) ≡ Ignore (esc (codes "[922337203685477580")) ∷ ignores (codes "8m")
too_large = refl

-- ---- cut anywhere

unfinished : told 64 (codes "a" ++ esc (codes "[1")) ≡ Print 97 ∷ Ignore (esc (codes "[1")) ∷ []
unfinished = refl

cut_at_esc : (walk 64 (Open Mode.Text) (codes "a" ++ 27 ∷ []) ≡ tell (Print 97 ∷ []) (Escape Mode.Text))
    × (walk 64 (Escape Mode.Text) (codes "[1") ≡ tell [] (CsiParam Mode.Text (codes "1")))
    × (walk 64 (CsiParam Mode.Text (codes "1")) (codes "mb") ≡ tell (CsiDispatch (esc (codes "[1m")) ∷ Print 98 ∷ []) (Open Mode.Text))
cut_at_esc = (refl, refl, refl)

cut_in_osc : (walk 64 (Open Mode.Text) (esc (codes "]0") ++ 27 ∷ []) ≡ tell (Hook 93 ∷ puts (codes "0")) (Escape Mode.Osc))
    × (walk 64 (Escape Mode.Osc) (codes "\\b") ≡ tell (Unhook (esc (codes "\\")) ∷ Print 98 ∷ []) (Open Mode.Text))
cut_in_osc = (refl, refl)
