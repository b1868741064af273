-- Between characters that look the same nothing is written. Of characters none are written as nothing, and some behind others.
use Rattle.csicodec_looks.proofs.Common.{◌≡◌, ℕ, Bool, true, false, cond, List, [], ◌∷◌, ◌++◌, refl, sym, ap, ◌∙◌, append-nil, encode_utf8_all, append_assoc, flat_map, zero, suc, replicate, flat_map-append, encoded_on, Look, Marking, Page, Plain, Styled, plain, Cell, Char, Empty, escaped, piece_texts, same, shows_looks, turn, written, ended, look_of, paint, text_of, texts_of, chars_of, glyph, is_empty, Done, before, cells_of, shown_by}
use Rattle.csicodec_looks.specs.{Pieces.turn as tags, contracts.look.LookEq.TheImpl.Laws.laws-law, Paint.look_text}

pub turn_same : (marking : Marking) (l : Look) → turn marking l l ≡ []
turn_same Plain l = refl
turn_same Styled l = ap (λ (b : Bool). cond b [] (look_text l)) (laws-law.refl l)
turn_same (Page m) l = ap (λ (b : Bool). cond b [] (piece_texts (tags m true l l))) (laws-law.refl l)

-- nor where looks aren't written
pub unturned : (marking : Marking) (old new : Look) (out : List ℕ) → shows_looks marking ≡ false → out ≡ out ++ turn marking old new
unturned Plain old new out e = sym (append-nil out)
unturned _ old new out e = cc

-- and between looks that are one
pub turned_alike : (marking : Marking) (old new : Look) (out : List ℕ) → same old new ≡ true → out ≡ out ++ turn marking old new
turned_alike Plain old new out e = sym (append-nil out)
turned_alike _ old new out e = rw e (sym (append-nil out))

-- ---- characters

pub written_none : (marking : Marking) → written marking [] ≡ []
written_none Plain = refl
written_none _ = refl

pub written_on : (marking : Marking) (xs ys : List ℕ) → written marking (xs ++ ys) ≡ written marking xs ++ written marking ys
written_on (Page m) xs ys = flat_map-append escaped xs ys
written_on _ xs ys = encoded_on xs ys

pub nothing_written : (marking : Marking) (out : List ℕ) → out ≡ out ++ written marking []
nothing_written marking out = sym (ap (λ (t : List ℕ). out ++ t) (written_none marking) ∙ append-nil out)

-- a newline is itself, and so is a space
pub blank_written : (marking : Marking) → (written marking (10 ∷ []) ≡ 10 ∷ []) × (written marking (32 ∷ []) ≡ 32 ∷ [])
unfolding lib.Utf8.encode
blank_written Plain = (refl, refl)
blank_written _ = (refl, refl)

-- ---- The text of lines, and what it is as characters.

-- lines and then others
pub texts_on : (marking : Marking) (xs ys : List (List Cell)) → texts_of marking (xs ++ ys) ≡ texts_of marking xs ++ texts_of marking ys
texts_on marking xs ys = flat_map-append (ended marking) xs ys

-- ---- all lines as one, with a cell of a newline behind each that is over

abbrev pub newline : Cell
newline = Char (glyph 10 plain)

abbrev pub line_cells : List Cell → List Cell
line_cells cells = cells ++ newline ∷ []

abbrev pub cells_by : Done → List Cell
cells_by d = flat_map line_cells d.lines ++ cells_of d.line

abbrev pub chars_by : Done → List ℕ
chars_by d = flat_map chars_of (cells_by d)

pub chars_before : (cells : List Cell) (d : Done) → chars_by (before (cells ∷ []) d) ≡ (flat_map chars_of cells ++ 10 ∷ []) ++ chars_by d
chars_before cells d = simp (flat_map-append chars_of, append_assoc)

pub plain_paint : (look : Look) (cells : List Cell) → paint Plain look cells ≡ encode_utf8_all (flat_map chars_of cells)
plain_paint look [] = refl
plain_paint look (cell ∷ cells) =
    ap (λ (t : List ℕ). encode_utf8_all (chars_of cell) ++ t) (plain_paint (look_of look cell) cells) ∙ sym (encoded_on (chars_of cell) (flat_map chars_of cells))

line_painted : (marking : Marking) (xs ys : List Cell) (look : Look) → paint marking look (xs ++ newline ∷ ys) ≡ paint marking look xs ++ 10 ∷ paint marking plain ys
line_painted marking [] ys look = rw (blank_written marking).0 refl
line_painted marking (x ∷ xs) ys look = rw (line_painted marking xs ys (look_of look x)) (simp append_assoc)

pub text_painted : (marking : Marking) (cells : List Cell) → text_of marking cells ≡ paint marking plain cells
text_painted Plain cells = sym (plain_paint plain cells)
text_painted Styled cells = refl
text_painted (Page m) cells = refl

lines_painted : (marking : Marking) (lines : List (List Cell)) (last : List Cell) → texts_of marking lines ++ text_of marking last ≡ paint marking plain (flat_map line_cells lines ++ last)
lines_painted marking [] last = text_painted marking last
lines_painted marking (x ∷ xs) last =
    let rest = flat_map line_cells xs ++ last in
    simp append_assoc (ap (λ (t : List ℕ). text_of marking x ++ 10 ∷ t) (lines_painted marking xs last)
    ∙ ap (λ (t : List ℕ). t ++ 10 ∷ paint marking plain rest) (text_painted marking x) ∙ sym (line_painted marking x rest plain))

-- what is shown is what is painted of them, as plain text too
pub shown_painted : (marking : Marking) (d : Done) → shown_by marking d ≡ paint marking plain (cells_by d)
shown_painted marking d = lines_painted marking d.lines (cells_of d.line)

pub shown_plain : (d : Done) → shown_by Plain d ≡ encode_utf8_all (chars_by d)
shown_plain d = shown_painted Plain d ∙ plain_paint plain (cells_by d)

-- ---- Cells that are painted, one after the other.

-- a cell, and then the others
pub turned_on : (marking : Marking) (look : Look) (cell : Cell) (cells : List Cell) (old mid : List ℕ) → mid ≡ old ++ turn marking look (look_of look cell)
    → mid ++ (written marking (chars_of cell) ++ paint marking (look_of look cell) cells) ≡ old ++ paint marking look (cell ∷ cells)
turned_on marking look cell cells old mid e = rw (e, append_assoc) refl

-- ---- empty cells at once

blanks_paint : (marking : Marking) (n : ℕ) (rest : List Cell) → paint marking plain (replicate n Empty ++ rest) ≡ replicate n 32 ++ paint marking plain rest
blanks_paint marking zero rest = refl
blanks_paint marking (suc n) rest = rw (turn_same marking plain, (blank_written marking).1, blanks_paint marking n rest) refl

-- one, and those behind it
pub blanks_on : (marking : Marking) (look : Look) (cell : Cell) (behind rest : List Cell) (n k : ℕ) (old new : List ℕ) → is_empty cell ≡ true
    → behind ≡ replicate n Empty ++ rest → k ≡ suc n → new ≡ old ++ replicate k 32
    → new ++ paint marking (look_of look cell) rest ≡ old ++ (written marking (chars_of cell) ++ paint marking (look_of look cell) behind)
blanks_on marking look Empty behind rest n k old new empty split some e =
    rw (e, some, split, (blank_written marking).1, blanks_paint marking n rest, append_assoc) refl
blanks_on marking look _ behind rest n k old new empty split some e = cc

-- nine attributes in turn
pub nine_on : {A : Type 0} (f : A → List ℕ) (a b c d e g h i j : List A) (old front back : List ℕ)
    → ((((((((((old ++ front) ++ flat_map f a) ++ flat_map f b) ++ flat_map f c) ++ flat_map f d) ++ flat_map f e) ++ flat_map f g) ++ flat_map f h) ++
    flat_map f i) ++ flat_map f j) ++ back
    ≡ old ++ (front ++ (flat_map f (a ++ (b ++ (c ++ (d ++ (e ++ (g ++ (h ++ (i ++ (j ++ []))))))))) ++ back))
nine_on f a b c d e g h i j old front back = simp (flat_map-append, append_assoc)

-- ---- cells that look the same

pub same_on : (marking : Marking) (look : Look) (cell : Cell) (behind cells : List Cell) (old new whole : List ℕ) → cells ≡ cell ∷ behind
    → look_of look cell ≡ look
    → new ≡ old ++ written marking (chars_of cell) → old ++ paint marking look cells ≡ whole → new ++ paint marking look behind ≡ whole
same_on marking look cell behind cells old new whole c is e h = rw (e, append_assoc) (rw (c, is, turn_same marking look) at h)
