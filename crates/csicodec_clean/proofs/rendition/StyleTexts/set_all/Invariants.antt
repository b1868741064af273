use Rattle.std.proofs.Common.{◌≡◌, ◌++◌, List, length}
use Rattle.csicodec_base.specs.declared.sgr.Sgr.{Sgr}
use Rattle.csicodec_clean.specs.{Private.Notes.ArePlaced, Styled.settled_texts}
use Rattle.csicodec_clean.proofs.rendition.StyleTexts.set_all.Given as goal

-- some styles came, and others are to come
abbrev pub invariant-loop-rest : goal.invariant-loop-rest
invariant-loop-rest l = record {
  placed : (styles : List Sgr) × ArePlaced styles l.rest l.text;
  came : (styles base : List Sgr) → ArePlaced styles l.places l.texts → l.initial.self ≡ settled_texts base
      → (done : List Sgr) × (later : List Sgr) × (styles ≡ done ++ later) × ArePlaced later l.rest l.text × (l.self ≡ settled_texts (base ++ done));
}

abbrev pub decreases-loop-rest : goal.decreases-loop-rest
decreases-loop-rest l = length l.rest
