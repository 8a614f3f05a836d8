-- The names of elements and attributes (HTML Living Standard, section 4).
use Rattle.std.specs.Prelude.{ℕ, List, codes}
use Rattle.html_text.specs.declared.names.Element.{Element}
use Rattle.html_text.specs.declared.names.Element.TheVariants as element
use Rattle.html_text.specs.declared.names.VoidElement.{VoidElement}
use Rattle.html_text.specs.declared.names.VoidElement.TheVariants as void
use Rattle.html_text.specs.declared.names.Name.{Name}
use Rattle.html_text.specs.declared.names.Name.TheVariants as name

abbrev pub element_word : Element → List ℕ
element_word element.A = codes "a"
element_word element.Body = codes "body"
element_word element.Button = codes "button"
element_word element.Dd = codes "dd"
element_word element.Dl = codes "dl"
element_word element.Dt = codes "dt"
element_word element.Footer = codes "footer"
element_word element.Form = codes "form"
element_word element.H1 = codes "h1"
element_word element.H2 = codes "h2"
element_word element.Head = codes "head"
element_word element.Header = codes "header"
element_word element.Html = codes "html"
element_word element.Label = codes "label"
element_word element.Li = codes "li"
element_word element.Main = codes "main"
element_word element.Nav = codes "nav"
element_word element.Ol = codes "ol"
element_word element.P = codes "p"
element_word element.Section = codes "section"
element_word element.Span = codes "span"
element_word element.Table = codes "table"
element_word element.Tbody = codes "tbody"
element_word element.Td = codes "td"
element_word element.Th = codes "th"
element_word element.Thead = codes "thead"
element_word element.Title = codes "title"
element_word element.Tr = codes "tr"
element_word element.Ul = codes "ul"

abbrev pub void_word : VoidElement → List ℕ
void_word void.Br = codes "br"
void_word void.Input = codes "input"
void_word void.Link = codes "link"
void_word void.Meta = codes "meta"

abbrev pub name_word : Name → List ℕ
name_word name.Action = codes "action"
name_word name.AriaCurrent = codes "aria-current"
name_word name.AriaLabel = codes "aria-label"
name_word name.Charset = codes "charset"
name_word name.Class = codes "class"
name_word name.Content = codes "content"
name_word name.For = codes "for"
name_word name.Href = codes "href"
name_word name.Id = codes "id"
name_word name.Lang = codes "lang"
name_word name.Method = codes "method"
name_word name.Name = codes "name"
name_word name.Rel = codes "rel"
name_word name.Role = codes "role"
name_word name.Scope = codes "scope"
name_word name.Type = codes "type"
name_word name.Value = codes "value"
