-- What stands on every page.
use Rattle.std.specs.Prelude.{ℕ, List, ◌++◌, codes}
use Rattle.speedup_page.specs.declared.frame.Fixed.{Fixed}
use Rattle.speedup_page.specs.declared.frame.Fixed.TheVariants as part

-- what stands before the title
unfoldable pub top : List ℕ
top =
    codes "<!DOCTYPE html>\n<html lang='en'>\n<head>\n<meta charset='utf-8'>\n"
    ++ codes "<meta name='viewport' content='width=device-width'>\n<title>"

-- colours and sizes
unfoldable pub style : List ℕ
style =
    codes "body{margin:12px;font:14px/1.4 system-ui,sans-serif;color:#111;background:#fff}\n"
    ++ (codes "main{max-width:776px}h1{font-size:20px;margin:0 0 4px}h2{font-size:16px;margin:16px 0 4px}\n"
    ++ (codes "p{margin:4px 0}code{font-size:13px}svg{display:block;font-size:12px;overflow:visible}\n"
    ++ (codes "text{dominant-baseline:central}.node{text-anchor:middle}.scale{text-anchor:end;fill:#333}\n"
    ++ (codes ".grid{stroke:#ccc;fill:none}.ideal{stroke:#555;stroke-dasharray:6 4;fill:none}\n"
    ++ (codes ".line{stroke:#12507a;stroke-width:2.2;fill:none}.mark{fill:#12507a}\n"
    ++ (codes ".value{font-weight:600;stroke:#fff;stroke-width:3;paint-order:stroke}\n"
    ++ (codes "rect{stroke:#111;stroke-width:.8}.steps{fill:#123}.checks{fill:#78909c}\n"
    ++ (codes ".reads{fill:url(#reads)}.writes{fill:url(#writes)}.handles{fill:#bbb}.idles{fill:#fff}\n"
    ++ (codes "table{border-collapse:collapse;font-size:13px}caption{text-align:left;font-weight:600}\n"
    ++ (codes "th,td{border-bottom:1px solid #ccc;padding:2px 0 2px 12px;text-align:right;\n"
    ++ (codes "vertical-align:top}small{display:block;color:#444}\n"
    ++ (codes "dl{display:flex;flex-wrap:wrap;gap:4px 6px;align-items:center;margin:6px 0 0 88px}\n"
    ++ (codes "dt svg{width:28px;height:18px}dd{margin:0 12px 0 0;font-size:13px}\n"
    ++ codes "@media print{*{print-color-adjust:exact}}\n")))))))))))))

-- where the chart begins
unfoldable pub chart : List ℕ
chart =
    codes "<h2>Speed-up over the original on one processor</h2>\n"
    ++ (codes "<svg role='img' aria-label='Speed-up by the number of nodes' width='776' height='376'>\n"
    ++ (codes "<defs><pattern id='reads' width='6' height='6' patternUnits='userSpaceOnUse'>\n"
    ++ (codes "<path d='M0 0H6V6H0z' fill='#cfe3f3'/><path d='M-1 7L7-1' stroke='#12507a'/></pattern>\n"
    ++ (codes "<pattern id='writes' width='6' height='6' patternUnits='userSpaceOnUse'>\n"
    ++ (codes "<path d='M0 0H6V6H0z' fill='#f7d9b0'/><circle cx='3' cy='3' r='1.5' fill='#7a3d00'/>\n"
    ++ codes "</pattern></defs>\n<text class='node' x='376' y='368'>nodes</text>\n")))))

-- where the bars begin
unfoldable pub bars : List ℕ
bars =
    codes "<h2>Where the time of all nodes goes</h2>\n"
    ++ codes "<svg role='img' aria-label='Shares of the time of all nodes' width='776' height='"

-- what the parts of the bars mean
unfoldable pub legend : List ℕ
legend =
    codes "<dl>\n<dt><svg><rect class='steps' width='28' height='18'/></svg></dt>"
    ++ (codes "<dd>words of the original</dd>\n"
    ++ (codes "<dt><svg><rect class='checks' width='28' height='18'/></svg></dt>"
    ++ (codes "<dd>words that checks add</dd>\n"
    ++ (codes "<dt><svg><rect class='reads' width='28' height='18'/></svg></dt><dd>waits to read</dd>\n"
    ++ (codes "<dt><svg><rect class='writes' width='28' height='18'/></svg></dt><dd>waits to write</dd>\n"
    ++ (codes "<dt><svg><rect class='handles' width='28' height='18'/></svg></dt><dd>handling</dd>\n"
    ++ codes "<dt><svg><rect class='idles' width='28' height='18'/></svg></dt><dd>idle</dd>\n</dl>\n"))))))

-- the head of the table
unfoldable pub table : List ℕ
table =
    codes "<h2>The numbers</h2>\n<table>\n<thead><tr><th>Nodes</th><th>Time</th><th>Speed-up</th>"
    ++ (codes "<th>Words</th><th>Of the original</th><th>Waits to read</th><th>Waits to write</th>"
    ++ codes "<th>Handling</th><th>Idle</th></tr></thead>\n<tbody>\n")

-- how the page is read
unfoldable pub notes : List ℕ
notes =
    codes "<p>The unit of time is what a node takes for one word of rewritten code. The speed-up is how\n"
    ++ (codes "many steps of the original, as one processor makes them on one memory, there are for each\n"
    ++ (codes "unit of the time of a run, rounded down. On the dashed line so many nodes are so many times\n"
    ++ (codes "as fast. What all nodes of a run spend is their number times the time of the run; its shares\n"
    ++ (codes "are rounded down. Each step of the original is committed by one word; checks add the\n"
    ++ (codes "others. The share of the words of the original is of all words. Where a row says stopped,\n"
    ++ (codes "the budget stopped a processor; where it says ebreak, illegal, misaligned, access or fetch, a\n"
    ++ (codes "processor ended by that trap. All times are those of a model: each word takes 1, and no way\n"
    ++ codes "between two nodes is ever full.</p>\n")))))))

-- where the page ends
unfoldable pub end : List ℕ
end =
    codes "</main>\n</body>"
    ++ codes "\n</html>\n"

abbrev pub fixed_text : Fixed → List ℕ
fixed_text part.Top = top
fixed_text part.Style = style
fixed_text part.Chart = chart
fixed_text part.Bars = bars
fixed_text part.Legend = legend
fixed_text part.Table = table
fixed_text part.Notes = notes
fixed_text part.End = end
