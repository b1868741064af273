use Rattle.std.proofs.Common.{◌∷◌, refl, codes}
use Rattle.csicodec_html.proofs.laws.newline_stays.Goals as goal

pub returns : goal.returns
returns c = λ page. (codes "</style>\n</head>\n<body>\n", 10 ∷ page, refl, refl)
