-- What a mode's number is read as has this number, and is by its name.
use Rattle.std.proofs.Common.{◌≡◌, ℕ, ◌<◌, List, Option, None, Some, refl, sym, ap, ◌∙◌, inl, inr, arith, pos, nat_lt}
use Rattle.std.proofs.lemmas.Bool.{cases_Bool, false≢true, lt-ltb, ltb-true}
use Rattle.std.specs.{Prelude.ℤ, Prelude.⊤, Prelude.negsuc, Prelude.nat_abs, Prelude.MatchOption, Int.FitsUnsignedBits}
use Rattle.csicodec_names.proofs.Coded.{Coded, decs, listed-number, small, terminals}
use Rattle.csicodec_names.specs.{ModeNumbers.dec_mode_number, ModeNumbers.dec_codes, ModeNumbers.terminal_mode_number, ModeNumbers.terminal_codes}
use Rattle.csicodec_names.specs.{Numbered.with_number, declared.modes.DecPrivateModeCode.DecPrivateModeCode, declared.modes.TerminalModeCode.TerminalModeCode}
use Rattle.csicodec_actions.specs.{declared.mode.DecPrivateMode.DecPrivateMode, declared.mode.TerminalMode.TerminalMode, Kinds.Dec, Kinds.Terminal}
use Rattle.csicodec_actions.specs.{Kinds.code_or, Kinds.read, Kinds.short, Modes.dec_number, Modes.terminal_number}
use Rattle.csicodec_structs.specs.Structs.{IsNamedDec, IsNamedTerminal}
use Rattle.csicodec_actions.proofs.Values.{dec-numbered, read-good, terminal-numbered}
use Rattle.csicodec_structs.proofs.OneValue.{none-has}

-- what has this number and is by its name, and none where there can be none
abbrev ReadsNamed : {A : Type 0} → (A → ℕ) → (A → Type 0) → (ℤ → Type 0) → ℤ → Option A → Type 0
ReadsNamed number Named Fits z found = MatchOption found (¬ Fits z) (λ a. (z ≡ pos (number a)) × Fits (pos (number a)) × Named a)

-- a number of 16 bits is itself
short-reads : (z : ℤ) → ReadsNamed (λ n. n) (λ n. ⊤) (FitsUnsignedBits 16) z (short z)
short-reads (pos n) = elim (cases_Bool (nat_lt n 65536)) [
  | inl low ↦ rw low (refl, ltb-true n 65536 low, tt)
  | inr high ↦ rw high (λ fits. false≢true (sym high ∙ lt-ltb n 65536 fits))
]
short-reads (negsuc n) = λ fits. fits

-- by its code, and by itself
code-reads : {C M : Type 0} (code_number : C → ℕ) (all : List C) → Coded code_number all → (coded : C → M) (own : ℕ → M) (number : M → ℕ) (Named : M → Type 0) (z : ℤ)
    → ((c : C) → number (coded c) ≡ code_number c) → ((n : ℕ) → number (own n) ≡ n) → ((c : C) → code_number c < 65536) → ((c : C) → Named (coded c))
    → ((n : ℕ) → ((c : C) → n ≡ code_number c → ⊥) → Named (own n))
    → ReadsNamed number Named (FitsUnsignedBits 16) z (code_or coded own (with_number code_number all z) (short z))
code-reads code_number all is coded own number Named z by_code by_self fits named_code named_own = go (with_number code_number all z) (short z) refl (short-reads z)
  where
    go : (found : Option _) (n : Option ℕ) → with_number code_number all z ≡ found → ReadsNamed (λ n. n) (λ n. ⊤) (FitsUnsignedBits 16) z n
        → ReadsNamed number Named (FitsUnsignedBits 16) z (code_or coded own found n)
    go (Some c) n found short = rw (by_code c) (listed-number code_number all z c found, fits c, named_code c)
    go None (Some n) none short = rw (by_self n) (short.0, short.1, named_own n (λ c same. none-has code_number all is z none c (short.0 ∙ ap pos same)))
    go None None none short = short

pub dec-fits : (c : DecPrivateModeCode) → dec_mode_number c < 65536
dec-fits c = omega (arith, small dec_mode_number dec_codes decs 65535 (search arith) c)

pub terminal-fits : (c : TerminalModeCode) → terminal_mode_number c < 65536
terminal-fits c = omega (arith, small terminal_mode_number terminal_codes terminals 65535 (search arith) c)

dec-reads : (z : ℤ) → ReadsNamed dec_number IsNamedDec (FitsUnsignedBits 16) z (read Dec z)
unfolding read
dec-reads z = code-reads dec_mode_number dec_codes decs (λ c. DecPrivateMode.Code c) (λ n. DecPrivateMode.Unspecified n) dec_number IsNamedDec z (λ c. refl) (λ n. refl) dec-fits (λ c. tt) (λ n h. h)

terminal-reads : (z : ℤ) → ReadsNamed terminal_number IsNamedTerminal (FitsUnsignedBits 16) z (read Terminal z)
unfolding read
terminal-reads z =
    code-reads terminal_mode_number terminal_codes terminals (λ c. TerminalMode.Code c) (λ n. TerminalMode.Unspecified n) terminal_number IsNamedTerminal z
    (λ c. refl) (λ n. refl) terminal-fits (λ c. tt) (λ n h. h)

-- so of a number of 16 bits
pub dec_read : (n : ℕ) (m : DecPrivateMode) → Some m ≡ read Dec (pos n) → (dec_number m ≡ n) × FitsUnsignedBits 16 (pos (dec_number m)) × IsNamedDec m
dec_read n m is = (let reads = rw (sym is) at (dec-reads (pos n)) in (sym (ap nat_abs reads.0), reads.1, reads.2))

pub terminal_read : (n : ℕ) (m : TerminalMode) → Some m ≡ read Terminal (pos n) → (terminal_number m ≡ n) × FitsUnsignedBits 16 (pos (terminal_number m)) × IsNamedTerminal m
terminal_read n m is = (let reads = rw (sym is) at (terminal-reads (pos n)) in (sym (ap nat_abs reads.0), reads.1, reads.2))

-- a mode by its name is read back from its number
pub dec-back : (m : DecPrivateMode) → IsNamedDec m → dec_number m < 65536 → read Dec (pos (dec_number m)) ≡ Some m
dec-back (DecPrivateMode.Code c) h low = read-good Dec (DecPrivateMode.Code c) tt
dec-back (DecPrivateMode.Unspecified n) h low = read-good Dec (DecPrivateMode.Unspecified n) (record { fits = low; own = h })

pub terminal-back : (m : TerminalMode) → IsNamedTerminal m → terminal_number m < 65536 → read Terminal (pos (terminal_number m)) ≡ Some m
terminal-back (TerminalMode.Code c) h low = read-good Terminal (TerminalMode.Code c) tt
terminal-back (TerminalMode.Unspecified n) h low = read-good Terminal (TerminalMode.Unspecified n) (record { fits = low; own = h })

-- any mode has its like by its name
pub dec-named : (m : DecPrivateMode) → dec_number m < 65536 → (one : DecPrivateMode) × IsNamedDec one × (dec_number one ≡ dec_number m)
dec-named m low =
    let (one, found, is) = dec-numbered (dec_number m) low in
    let reads = rw found at (dec-reads (pos (dec_number m))) in
    (one, reads.2, is)

pub terminal-named : (m : TerminalMode) → terminal_number m < 65536 → (one : TerminalMode) × IsNamedTerminal one × (terminal_number one ≡ terminal_number m)
terminal-named m low =
    let (one, found, is) = terminal-numbered (terminal_number m) low in
    let reads = rw found at (terminal-reads (pos (terminal_number m))) in
    (one, reads.2, is)
