-- The program's own text.
use Rattle.std.specs.Prelude.{List, ℕ, ◌++◌, codes}

-- how the program is called
unfoldable pub usage : List ℕ
usage =
    codes "usage: shasta rewrite IN OUT [--no-batch]\n" ++ (codes "       shasta list IN\n"
    ++ (codes "       shasta one IN [--nodes N] [--order K] [--budget B] [--layout FILE]\n"
    ++ (codes "       shasta sim IN [--nodes N] [--order K] [--budget B] [--layout FILE]"
    ++ (codes " [--code FILE | --verify FILE] [--no-batch] [--brief] [--loss L] [--per-node M]\n"
    ++ (codes "       shasta run IN [--nodes N] [--record FILE] [--budget B] [--layout FILE]"
    ++ (codes " [--code FILE | --verify FILE] [--no-batch] [--brief]\n"
    ++ (codes "       shasta replay IN RECORD [--verify FILE] [--brief]\n"
    ++ (codes "       shasta gen NUMBER OUT\n"
    ++ codes "       shasta asm TEXT OUT\n"))))))))
