-- The style sheet: readable at 360 pixels, in dark mode and printed (CSS Snapshot 2023, section 2). Rules of our own.
use Rattle.std.specs.Prelude.{ℕ, List, ◌++◌, codes}

unfoldable pub color_rules : List ℕ
color_rules = codes ":root{color-scheme:light dark}\n"

unfoldable pub text_rules : List ℕ
text_rules = codes "body{font:1rem/1.5 serif;overflow-wrap:anywhere}\n"

unfoldable pub width_rules : List ℕ
width_rules = codes "body{margin:0 auto;max-width:46rem;padding:.5rem 1rem}\n"

unfoldable pub heading_rules : List ℕ
heading_rules = codes "h1{font-size:1.5rem;line-height:1.2}\n"

unfoldable pub section_rules : List ℕ
section_rules = codes "h2{font-size:1.15rem;margin-bottom:.25rem}\n"

unfoldable pub nav_rules : List ℕ
nav_rules = codes "nav{border-bottom:1px solid;padding:.5rem 0}\n"

unfoldable pub list_rules : List ℕ
list_rules = codes "ul{padding-left:1.2rem;margin:.25rem 0}\n"

unfoldable pub note_rules : List ℕ
note_rules = codes ".note{font-size:.9rem;margin:.25rem 0}\n"

unfoldable pub pages_rules : List ℕ
pages_rules = codes ".pages a{margin-right:1rem}\n"

unfoldable pub lined_rules : List ℕ
lined_rules = codes ".text{white-space:pre-line}\n"

unfoldable pub tree_rules : List ℕ
tree_rules = codes ".tree,.tree ul{list-style:none;border-left:1px solid;padding-left:1rem}\n"

unfoldable pub box_rules : List ℕ
box_rules = codes ".tree a{border:1px solid;display:inline-block;margin:.25rem 0;padding:.25rem .5rem}\n"

unfoldable pub focus_rules : List ℕ
focus_rules = codes "a:focus{outline:2px solid}\n"

unfoldable pub print_rules : List ℕ
print_rules = codes "@media print{nav{display:none}body{max-width:none;padding:0}}\n"

-- colors, texts and their width
abbrev pub base_rules : List ℕ
base_rules = color_rules ++ (text_rules ++ width_rules)

-- headings, lists and what is beside them
abbrev pub element_rules : List ℕ
element_rules = heading_rules ++ (section_rules ++ (nav_rules ++ list_rules))

-- transcriptions and pedigrees
abbrev pub shape_rules : List ℕ
shape_rules = lined_rules ++ (tree_rules ++ box_rules)

abbrev pub class_rules : List ℕ
class_rules = note_rules ++ (pages_rules ++ (shape_rules ++ (focus_rules ++ print_rules)))

abbrev pub style_sheet : List ℕ
style_sheet = base_rules ++ (element_rules ++ class_rules)
