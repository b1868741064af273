-- The form of what stands behind the number of a command.

pub data Form : Type 0 where
  -- `;` and a text
  OneText : Form
  -- the same, and the text is none of ConEmu's commands 4 and 9
  Message : Form
  -- fields, each behind a `;`, and none where nothing stands there
  Several : Form
  -- `;`, a text without `;`, `;` and a text
  TwoTexts : Form
  -- the same, where the second text is a question (`?`) or a value
  TextAsked : Form
