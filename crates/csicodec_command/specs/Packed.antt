-- What no stream is: data that others are packed in, by the first bytes.
use Rattle.csicodec_command.specs.{Common.ℕ, Common.List, Common.[], Common.codes, Common.Option, Common.IfSome, declared.packed.Packing.Packing}
use Rattle.std.specs.Prelude.{◌≡◌, ◌∷◌, ◌++◌}

-- The bytes that all such data begin with: of gzip with its method, deflate (RFC 1952, 2.3.1), of xz (The .xz File Format, 2.1.1.1), of zstd (RFC 8878, 3.1.1)
-- and of bzip2. Frames of ttyrec and an asciicast of version 1 are told by more than that.
abbrev pub magic : Packing → List ℕ
magic Packing.Gzip = 31 ∷ 139 ∷ 8 ∷ []
magic Packing.Xz = 253 ∷ 55 ∷ 122 ∷ 88 ∷ 90 ∷ 0 ∷ []
magic Packing.Zstd = 40 ∷ 181 ∷ 47 ∷ 253 ∷ []
magic Packing.Bzip2 = codes "BZh"
magic Packing.Ttyrec = []
magic Packing.FirstAsciicast = codes "{"

-- what is said of it, and how the stream comes out
abbrev pub packing_text : Packing → List ℕ
packing_text Packing.Gzip = codes "packed by gzip (gzip -dc FILE | csicodec .. unpacks it)"
packing_text Packing.Xz = codes "packed by xz (xz -dc FILE | csicodec .. unpacks it)"
packing_text Packing.Zstd = codes "packed by zstd (zstd -dc FILE | csicodec .. unpacks it)"
packing_text Packing.Bzip2 = codes "packed by bzip2 (bzip2 -dc FILE | csicodec .. unpacks it)"
packing_text Packing.Ttyrec = codes "a recording of ttyrec (ttyplay -n FILE | csicodec .. plays it)"
packing_text Packing.FirstAsciicast = codes "an asciicast of version 1 (jq -j '.stdout[][1]' FILE | csicodec .. plays it)"

abbrev pub Begins : Packing → List ℕ → Type 0
Begins packing bytes = (rest : List ℕ) × (bytes ≡ magic packing ++ rest)
