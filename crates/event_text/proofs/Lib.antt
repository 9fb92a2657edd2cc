mod Passed
