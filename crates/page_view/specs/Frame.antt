-- What stands on every page.
use Rattle.std.specs.Prelude.{ℕ, List, ◌++◌, codes}
use Rattle.page_view.specs.declared.frame.Fixed.{Fixed}
use Rattle.page_view.specs.declared.frame.Fixed.TheVariants as part

-- what stands before the title
unfoldable pub top : List ℕ
top =
    codes "<!DOCTYPE html>\n<html lang='en'>\n<head>\n<meta charset='utf-8'>\n"
    ++ codes "<meta name='viewport' content='width=device-width'>\n<title>"

-- the head of the table of blocks
unfoldable pub table : List ℕ
table =
    codes "<table>\n<caption>Blocks of these events</caption>\n<thead><tr><th>Block</th>"
    ++ (codes "<th>Addresses</th><th>Home</th><th>Misses</th><th>Messages</th></tr></thead>"
    ++ codes "\n<tbody>\n")

-- where the diagram begins
unfoldable pub opening : List ℕ
opening =
    codes "<svg role='group' aria-label='Events' aria-describedby='legend' "
    ++ codes "width='776' height='"

-- the command line of a page from a stamp on
unfoldable pub command : List ℕ
command =
    codes "shasta_view page IN RECORD OUT "
    ++ codes "--from "

-- where the page ends
unfoldable pub end : List ℕ
end =
    codes "</div>\n</main>\n"
    ++ codes "</body>\n</html>\n"

-- colours and sizes
unfoldable pub style : List ℕ
style =
    codes "body{margin:12px;font:14px/1.4 system-ui,sans-serif;color:#111;background:#fff}\n"
    ++ (codes "h1{font-size:20px;margin:0 0 4px}p{margin:4px 0}code{font-size:13px}\n"
    ++ (codes "svg{display:block;font-size:11.5px;overflow:visible}"
    ++ (codes "text{dominant-baseline:central}\n"
    ++ (codes ".heads{position:sticky;top:0;background:#fff;border-bottom:1px solid #999}\n"
    ++ (codes ".heads text{font-weight:600}.node{text-anchor:middle}.stamp{text-anchor:end;"
    ++ (codes "fill:#555}\n"
    ++ (codes ".line{stroke:#888;fill:none}.wait{stroke:#fbe3a6;stroke-width:14;fill:none}\n"
    ++ (codes ".message{stroke:var(--c);fill:none;stroke-width:1.4;outline:none}\n"
    ++ (codes ".message text{fill:var(--c);stroke:#fff;stroke-width:3.5;paint-order:stroke;\n"
    ++ (codes "font-weight:600;transform:translate(20px,0)}\n"
    ++ (codes ".way{marker-end:url(#head)}.broad{stroke:transparent;stroke-width:12}\n"
    ++ (codes ".asks{--c:#1849b0}.passes{--c:#a8300f}.answers{--c:#0b6b2e}.ends{--c:#595959}\n"
    ++ (codes ".ends .way{stroke-dasharray:4 3}tspan{font-weight:700}.miss text{fill:#a00000}\n"
    ++ (codes "svg:has(.message:hover) .message:not(:hover),\n"
    ++ (codes "svg:has(.message:focus) .message:not(:focus){opacity:.12}\n"
    ++ (codes ".message:hover .way,.message:focus .way{stroke-width:2.8}\n"
    ++ (codes "table{border-collapse:collapse;font-size:13px;margin:12px 0}\n"
    ++ (codes "caption{text-align:left;font-weight:600}\n"
    ++ (codes "th,td{border-bottom:1px solid #ccc;padding:2px 0 2px 10px;text-align:right}\n"
    ++ (codes "td:nth-child(2),th:nth-child(2){text-align:left;"
    ++ (codes "font-family:ui-monospace,monospace}\n"
    ++ (codes "dl{display:grid;grid-template-columns:36px 1fr 36px 1fr;gap:0 8px;\n"
    ++ (codes "align-items:center;margin:8px 0;font-size:13px}dt svg{width:36px;height:24px}"
    ++ (codes "dd{margin:0}\n"
    ++ (codes "@media(min-width:1180px){main{display:grid;grid-template-columns:776px 1fr;"
    ++ (codes "gap:28px}\n"
    ++ (codes "aside{order:1;position:sticky;top:0;align-self:start}"
    ++ (codes "dl{grid-template-columns:36px 1fr}}\n"
    ++ (codes "@media print{.heads,aside{position:static}"
    ++ codes "*{print-color-adjust:exact}}\n")))))))))))))))))))))))))))))

-- the drawings of marks
unfoldable pub marks : List ℕ
marks =
    codes "<svg width='0' height='0' aria-hidden='true' style='position:absolute'><defs>\n"
    ++ (codes "<g id='e'><path d='M-7-7H7V7H-7z' fill='#8fd19e' stroke='#111'/>\n"
    ++ (codes "<text class='node'>E</text></g>\n"
    ++ (codes "<g id='s'><path d='M-7-7H7V7H-7z' fill='#a9c8f5' stroke='#111'/>\n"
    ++ (codes "<text class='node'>S</text></g>\n"
    ++ (codes "<g id='i'><path d='M-7-7H7V7H-7z' fill='#fff' stroke='#111'/>\n"
    ++ (codes "<text class='node'>I</text></g>\n"
    ++ (codes "<g id='p'><path d='M-7-7H7V7H-7z' fill='#f4c255' stroke='#111'/>\n"
    ++ (codes "<text class='node'>P</text></g>\n"
    ++ (codes "<g id='miss'><circle r='12' fill='none' stroke='#c00000' stroke-width='2.5'/></g>"
    ++ (codes "\n"
    ++ (codes "<g id='miss-e'><use href='#e'/><use href='#miss'/></g>\n"
    ++ (codes "<g id='miss-s'><use href='#s'/><use href='#miss'/></g>\n"
    ++ (codes "<g id='miss-i'><use href='#i'/><use href='#miss'/></g>\n"
    ++ (codes "<g id='miss-p'><use href='#p'/><use href='#miss'/></g>\n"
    ++ (codes "<circle id='reads' r='4' fill='#fff' stroke='#111' stroke-width='1.5'/>\n"
    ++ (codes "<circle id='writes' r='4.5' fill='#111'/>\n"
    ++ (codes "<path id='acts' d='M-5 0H5' stroke='#111' stroke-width='2'/>"
    ++ codes "</defs></svg>\n")))))))))))))))))

-- what the drawings mean
unfoldable pub legend : List ℕ
legend =
    codes "<dl id='legend'>\n"
    ++ (codes "<dt><svg><use href='#e' x='18' y='12'/></svg></dt>\n"
    ++ (codes "<dd>exclusive: the node may read and write the block</dd>\n"
    ++ (codes "<dt><svg><use href='#s' x='18' y='12'/></svg></dt>\n"
    ++ (codes "<dd>shared: it may read</dd>\n"
    ++ (codes "<dt><svg><use href='#i' x='18' y='12'/></svg></dt>\n"
    ++ (codes "<dd>invalid: it may do neither</dd>\n"
    ++ (codes "<dt><svg><use href='#p' x='18' y='12'/></svg></dt>\n"
    ++ (codes "<dd>pending: it has asked for the block</dd>\n"
    ++ (codes "<dt><svg><use href='#miss' x='18' y='12'/></svg></dt>\n"
    ++ (codes "<dd>a miss, around the state before it</dd>\n"
    ++ (codes "<dt><svg><path class='wait' d='M18 0V24'/></svg></dt>\n"
    ++ (codes "<dd>the node waits</dd>\n"
    ++ (codes "<dt><svg><use href='#reads' x='18' y='12'/></svg></dt>\n"
    ++ (codes "<dd>it reads</dd>\n"
    ++ (codes "<dt><svg><use href='#writes' x='18' y='12'/></svg></dt>\n"
    ++ (codes "<dd>it writes</dd>\n"
    ++ (codes "<dt><svg><g class='message asks'><path class='way' d='M2 12H40'/></g></svg></dt>\n"
    ++ (codes "<dd>Read, Write: it asks the home</dd>\n"
    ++ (codes "<dt><svg><g class='message passes'><path class='way' d='M2 12H40'/></g></svg></dt>"
    ++ (codes "\n"
    ++ (codes "<dd>FwdRead, FwdWrite, Inval: the home passes it on</dd>\n"
    ++ (codes "<dt><svg><g class='message answers'><path class='way' d='M2 12H40'/></g></svg>"
    ++ (codes "</dt>\n"
    ++ (codes "<dd>Data, Grant, Ack: an answer</dd>\n"
    ++ (codes "<dt><svg><g class='message ends'><path class='way' d='M2 12H40'/></g></svg></dt>\n"
    ++ (codes "<dd>Done, Bye: an end</dd>\n"
    ++ codes "</dl>\n"))))))))))))))))))))))))))

-- how the page is read
unfoldable pub notes : List ℕ
notes =
    codes "<p>A box has the state, behind an event, of the block that the event is about. An "
    ++ (codes "arrow\n"
    ++ (codes "from the upper edge was sent before these events; one to the lower edge is not "
    ++ (codes "taken\n"
    ++ (codes "among them. Point at a message, or go to it by the Tab key, and the others fade; "
    ++ (codes "point\n"
    ++ codes "at a row to read all of its event.</p>\n")))))

-- what stands above the columns of the diagram
unfoldable pub columns : List ℕ
columns =
    codes "<div class='heads'><svg width='776' height='40' aria-hidden='true'>\n"
    ++ (codes "<text class='stamp' x='44' y='30'>stamp</text>\n"
    ++ (codes "<text class='node' x='216' y='12'>nodes</text>\n"
    ++ codes "<text x='440' y='30'>node, and what it did</text>\n"))

-- the head of an arrow, and the ground of the rows
unfoldable pub drawings : List ℕ
drawings =
    codes "<defs><marker id='head' viewBox='0 0 8 8' refX='14' refY='4' orient='auto'\n"
    ++ (codes "markerWidth='8' markerHeight='8' markerUnits='userSpaceOnUse'>"
    ++ (codes "<path d='M0 0L8 4L0 8z' fill='context-stroke' stroke='none'/></marker>\n"
    ++ (codes "<pattern id='rows' width='776' height='36' patternUnits='userSpaceOnUse'>"
    ++ (codes "<path d='M0 18H776' stroke='#f3f4f6' stroke-width='18'/></pattern></defs>\n"
    ++ codes "<rect width='776' height='100%' fill='url(#rows)'/>\n"))))

abbrev pub fixed_text : Fixed → List ℕ
fixed_text part.Top = top
fixed_text part.Table = table
fixed_text part.Opening = opening
fixed_text part.Command = command
fixed_text part.End = end
fixed_text part.Style = style
fixed_text part.Marks = marks
fixed_text part.Legend = legend
fixed_text part.Notes = notes
fixed_text part.Columns = columns
fixed_text part.Drawings = drawings
